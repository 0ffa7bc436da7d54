use Rattle.std.proofs.Common.{arith, ◌≡◌, length, ap, sym, ◌∙◌, true, ℕ, ◌+◌, ◌-◌, below_more}
use Rattle.counter_table.specs.Homes.{home_in, ahead}
use Rattle.counter_table.specs.Slots.{is_taken}
use Rattle.counter_table.specs.TableHashes.{hash_in}
use Rattle.counter_table.proofs.LookupReach.{free_from_few, taken_few}
use Rattle.counter_table.proofs.LookupFingerprints.{seen_free, seen_taken}
use Rattle.counter_table.proofs.LookupHomes.{some_size, remainder_below, stands_first, stands_within, stands_next}
use Rattle.counter_table.proofs.slot_table.look_ups.SlotSlices.find_free_from.Goals as goal

pub probe-init : goal.probe-init
probe-init g c = record {
  stands = stands_first (hash_in c.args.self.now.key g.T.Hash.hash_input) c.args._item.now _ c.requires.size _ c.requires.home;
  taken = λ j l. absurd (omega arith);
}

pub probe_at-requires-clause-index : goal.probe_at-requires-clause-index
probe_at-requires-clause-index g c = rw (c.self.invariant.long, (ap (λ t. t.slots) c.self.view_is)) (stands_within (hash_in c.args.self.now.key g.T.Hash.hash_input) c.args._item.now _ c.requires.size c.probe.index c.probe.probed c.probe.invariant.stands)

pub returns-then-probe_at-eq-FREE : goal.returns-then-probe_at-eq-FREE
returns-then-probe_at-eq-FREE g c =
    let n = length c.args.self.now.slots in
    let h = home_in (hash_in c.args.self.now.key g.T.Hash.hash_input) n c.args._item.now in
    let same : c.probe.probed ≡ c.probe_at.new.probed - 1 = omega (arith, c.probe_at.ensures.counted) in
    record {
      some = omega (arith, c.probe_at.ensures.counted);
      short = omega (arith, c.probe_at.ensures.counted, c.probe.invariant.stands.below);
      index_is = c.probe.invariant.stands.at_index ∙ ap (ahead n h) same;
      taken = λ j l. c.probe.invariant.taken j (omega (arith, c.probe_at.ensures.counted, l));
      free = seen_free (rw (ap (λ t. t.slots) c.self.view_is) at c.self.invariant) c.probe.index c.probe_at.result c.probe_at.ensures.value c.if-probe_at-eq-FREE.true;
    }

pub probe-preserved : goal.probe-preserved
probe-preserved g c =
    let slots = c.args.self.now.slots in
    let n = length slots in
    let h = home_in (hash_in c.args.self.now.key g.T.Hash.hash_input) n c.args._item.now in
    let here : is_taken slots (ahead n h c.probe.probed) ≡ true = ap (is_taken slots) (sym c.probe.invariant.stands.at_index) ∙ seen_taken (rw (ap (λ t. t.slots) c.self.view_is) at c.self.invariant) c.probe.index c.probe_at.result c.probe_at.ensures.value c.if-probe_at-eq-FREE.false in
    let P : ℕ → Type 0 = λ j. is_taken slots (ahead n h j) ≡ true in
    let more = below_more P c.probe.probed c.probe.invariant.taken here in
    let below = taken_few slots h (c.probe.probed + 1) (remainder_below _ n (some_size n c.requires.size)) (free_from_few slots c.requires.room) more in
    rw (c.probe_at.ensures.counted) (record {
      stands = stands_next (hash_in c.args.self.now.key g.T.Hash.hash_input) c.args._item.now n c.requires.size c.probe.index c.next-index.result c.probe.probed c.probe.invariant.stands (rw (ap (λ t. t.slots) c.self.view_is) at c.next-index.ensures) below;
      taken = more;
    })

pub next-index-requires-clause-index : goal.next-index-requires-clause-index
next-index-requires-clause-index g c = rw (ap (λ t. t.slots) c.self.view_is) (stands_within (hash_in c.args.self.now.key g.T.Hash.hash_input) c.args._item.now _ c.requires.size c.probe.index c.probe.probed c.probe.invariant.stands)
