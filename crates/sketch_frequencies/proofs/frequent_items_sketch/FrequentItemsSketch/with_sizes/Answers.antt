use Rattle.std.proofs.Common.{arith, refl}
use Rattle.std.specs.List.{IsDistinct}
use Rattle.std.proofs.lemmas.List.Elements.{All-nil}
use Rattle.sketch_frequencies.proofs.Powers.{eight_is_power}
use Rattle.sketch_frequencies.proofs.SampleSizes.{size_passes}
use Rattle.sketch_frequencies.proofs.frequent_items_sketch.FrequentItemsSketch.with_sizes.Goals as goal

pub with_key-requires-clause-power : goal.with_key-requires-clause-power
with_key-requires-clause-power g c = eight_is_power

pub invariant_of-result : goal.invariant_of-result
unfolding IsDistinct
invariant_of-result g c =
    let size = size_passes c.args.sizes.max_map_size (c.in_ok-check_map_size.ensures.accepted.0 refl) in
    rw c.in_ok-map.ensures.ok (record {
      distinct = tt;
      positive = All-nil _;
      few = omega arith;
      sum = omega arith;
      least = omega arith;
      within = omega (arith, size.1);
      greatest = omega (arith, size.2);
      size_power = eight_is_power;
      max_size_power = size.0;
      empty = λ _. refl;
      sample = c.in_ok-check_sample_size.ensures.sample;
    })

pub returns-clause-state : goal.returns-clause-state
returns-clause-state g c = invariant_of-result g c

pub returns-clause-ok : goal.returns-clause-ok
returns-clause-ok g c = rw c.in_ok-map.ensures.ok refl
