use Rattle.std.proofs.Common.{◌≤◌, ◌+◌, ◌∙◌, length, sym, subst, arith}
use Rattle.std.proofs.lemmas.List.{take_rest}
use Rattle.sketch_frequencies.proofs.ImageSizes.{AreReadSoFar, one_read, all_read, read_to_fault, used_within}
use Rattle.sketch_frequencies.proofs.image.bytes_of_items.Goals as goal

pub returns-then-size-eq0 : goal.returns-then-size-eq0
returns-then-size-eq0 g c = read_to_fault g.T.FrequentItemValue.codec c.args.items.now c.args.active c.loop-i.i c.loop-i.rest.now (sym c.deserialize_size-size.ensures ∙ c.if-size-eq0.true) c.loop-i.invariant

pub slice_bounds-rest-count : goal.slice_bounds-rest-count
slice_bounds-rest-count g c = omega (arith, c.deserialize_size-size.ensures, used_within g.T.FrequentItemValue.codec g.met.T.FrequentItemValue.lawful c.loop-i.rest.now)

pub slice_bounds-rest-start : goal.slice_bounds-rest-start
slice_bounds-rest-start g c = omega (arith, c.deserialize_size-size.ensures, used_within g.T.FrequentItemValue.codec g.met.T.FrequentItemValue.lawful c.loop-i.rest.now)

pub loop-i-preserved : goal.loop-i-preserved
loop-i-preserved g c =
    let codec = g.T.FrequentItemValue.codec in
    let items = c.args.items.now in
    let rest = c.loop-i.rest.now in
    let size = c.deserialize_size-size.result in
    let there : size ≤ length rest = omega (arith, c.deserialize_size-size.ensures, used_within codec g.met.T.FrequentItemValue.lawful rest) in
    subst (λ l. AreReadSoFar codec items c.args.active (c.loop-i.i + 1) l) (sym (take_rest rest size)) (one_read codec items c.args.active c.loop-i.i size rest c.loop-i-test.true there (sym c.deserialize_size-size.ensures) c.loop-i.invariant)

pub returns : goal.returns
returns g c = all_read g.T.FrequentItemValue.codec c.args.items.now c.args.active c.loop-i.i c.loop-i.rest.now (omega (arith, c.loop-i-test.false)) c.loop-i.invariant
