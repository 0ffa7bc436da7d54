use Rattle.std.proofs.Common.{◌≡◌, ◌+◌, ℕ, take, get_or, set, refl, ap, ◌∙◌, arith}
use Rattle.sketch_base.specs.Batches.{written_more, written_all}
use Rattle.counter_table.specs.Slots.{entries_of}
use Rattle.counter_table.specs.Tables.{count_of}
use Rattle.counter_table.proofs.LookupCounts.{count_found}
use Rattle.counter_table.proofs.TableHashing.{hashes_alike}
use Rattle.counter_table.proofs.slot_table.look_ups.SlotSlices.counts_under.Goals as goal

pub each-init : goal.each-init
each-init g c = refl

pub each-preserved : goal.each-preserved
each-preserved g c =
    let f : g.row.T.Denot → ℕ = count_of g.T.PartialEq.eq (entries_of c.args.self.now.slots) in
    let count = c.unwrap_or.ensures ∙ count_found g.met.T.Eq.laws (hashes_alike c.args.self.now.key g.met.T.Hash.respects_eq) c.args.self.now.slots c.requires.slots c.index-items-i.result _ _ _ c.find_from-probe.ensures.probe in
    let item : f c.index-items-i.result ≡ f (get_or c.args.items.now c.each.i c.index-items-i.result) = ap f c.index-items-i.is in
    ap (λ (n : ℕ). take (c.each.i + 1) (set c.each.counts c.each.i n)) (count ∙ item)
    ∙ written_more f c.args.items.now c.each.counts c.each.i c.index-items-i.result c.each-test.true (omega arith) c.each.invariant

pub returns : goal.returns
returns g c =
    let f : g.row.T.Denot → ℕ = count_of g.T.PartialEq.eq (entries_of c.args.self.now.slots) in
    written_all f c.args.items.now c.each.counts c.each.i c.each-test.false (omega arith) c.each.invariant

pub find_from-probe-requires : goal.find_from-probe-requires
find_from-probe-requires g c = record { slots = c.requires.slots; hash = rw c.requires.key at c.hash_of.ensures }
