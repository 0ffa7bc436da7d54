use Rattle.std.proofs.Common.{arith, ap, ◌≡◌, ◌∙◌, length, replicate, vec_len}
use Rattle.counter_table.specs.TableHashes.{hash_in}
use Rattle.counter_table.proofs.InsertionCounts.{written_whole}
use Rattle.counter_table.proofs.LookupFingerprints.{fingerprints_free}
use Rattle.counter_table.proofs.slot_table.SlotTable.clear.Goals as goal

pub invariant_of-self : goal.invariant_of-self
invariant_of-self g c =
    let cut = c.truncate.new.self in
    let new = c.free_all.new.slots in
    let size = ap (λ t. length t.slots) c.self.view_is in
    let long : length new ≡ c.args.size = omega (arith, c.free_all.auto.slots, c.deref_mut.ensures.len, c.truncate.ensures.len, size, c.requires) in
    let kept : vec_len c.truncate-2.new.self ≡ c.args.size = omega (arith, c.truncate-2.ensures.len, c.self.invariant.long, size, c.requires) in
    rw (written_whole cut.len new cut.items (omega (arith, c.free_all.auto.slots, c.deref_mut.ensures.len)))
    (fingerprints_free (hash_in c.self.inside.key g.T.Hash.hash_input) new c.fill.new.self.items c.args.size c.free_all.ensures long (c.fill.ensures.items (λ y e. e) ∙ ap (λ n. replicate n 0) kept))

pub returns : goal.returns
returns g c =
    let cut = c.truncate.new.self in
    let new = c.free_all.new.slots in
    rw (written_whole cut.len new cut.items (omega (arith, c.free_all.auto.slots, c.deref_mut.ensures.len))) (record {
      free = c.free_all.ensures;
      size = omega (arith, c.free_all.auto.slots, c.deref_mut.ensures.len, c.truncate.ensures.len, ap (λ t. length t.slots) c.self.view_is, c.requires);
      key = ap (λ t. t.key) c.self.view_is;
    })
