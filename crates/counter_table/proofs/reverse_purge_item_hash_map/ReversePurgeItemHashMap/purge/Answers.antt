use Rattle.std.proofs.Common.{arith, ap, ◌∙◌, ◌≡◌, ◌+◌, ◌%◌, ◌^◌, length, min, subst}
use Rattle.std.proofs.lemmas.List.Sorted.{length_permutation}
use Rattle.counter_table.specs.Samples.{sample_start, IsSampledFrom}
use Rattle.counter_table.specs.TableHashes.{hash_in}
use Rattle.counter_table.specs.Tables.{Table}
use Rattle.counter_table.proofs.PurgeRoom.{purged_shorter}
use Rattle.counter_table.proofs.PurgeSamples.{sampled_from}
use Rattle.counter_table.proofs.reverse_purge_item_hash_map.ReversePurgeItemHashMap.purge.Goals as goal

pub returns-clause-middle : goal.returns-clause-middle
returns-clause-middle g c =
    let many = ap (λ t. length t.entries) c.self.view_is in
    let size : c.min-size.result ≡ min c.args.sample_size (min (length c.args.self.now.entries) 1024) = omega (arith, c.min-size.ensures, c.min.ensures, c.self.invariant.active_is, many) in
    rw (size, ap (λ t. t.entries) c.self.view_is) at c.middle_of-middle.ensures.middle

pub returns-clause-entries : goal.returns-clause-entries
returns-clause-entries g c = rw (ap (λ t. t.entries) c.self.view_is) at c.lower-removed.ensures.entries

pub returns-clause-room : goal.returns-clause-room
returns-clause-room g c =
    let n = min c.args.sample_size (min (length c.args.self.now.entries) 1024) in
    omega (arith, length_permutation _ _ (returns-clause-entries g c), purged_shorter n c.middle_of-middle.result c.args.self.now.entries (returns-clause-middle g c))

pub middle_of-middle-requires-clause-some : goal.middle_of-middle-requires-clause-some
middle_of-middle-requires-clause-some g c = omega (arith, c.min-size.ensures, c.min.ensures, c.self.invariant.active_is, c.requires.active, c.requires.sample, ap (λ t. length t.entries) c.self.view_is)

pub middle_of-middle-requires-clause-few : goal.middle_of-middle-requires-clause-few
middle_of-middle-requires-clause-few g c = omega (arith, c.min-size.ensures, c.min.ensures)

pub middle_of-middle-requires-clause-active : goal.middle_of-middle-requires-clause-active
middle_of-middle-requires-clause-active g c = omega (arith, c.min-size.ensures, c.min.ensures, c.self.invariant.active_is)

pub lower-removed-requires : goal.lower-removed-requires
lower-removed-requires g c = record { slots = c.self.invariant.slots_ok }

pub overflow_sub-self : goal.overflow_sub-self
overflow_sub-self g c = omega (arith, c.lower-removed.ensures.removed, c.self.invariant.active_is)

pub invariant_of-self : goal.invariant_of-self
invariant_of-self g c = record { slots_ok = c.lower-removed.ensures.slots; active_is = omega (arith, c.lower-removed.ensures.removed, c.self.invariant.active_is) }

pub returns-clause-size : goal.returns-clause-size
returns-clause-size g c = c.lower-removed.ensures.size ∙ ap (λ t. t.size) c.self.view_is

pub returns-clause-distinct : goal.returns-clause-distinct
returns-clause-distinct g c = c.lower-removed.ensures.slots.distinct

pub returns-clause-key : goal.returns-clause-key
returns-clause-key g c = c.lower-removed.ensures.key ∙ ap (λ t. t.key) c.self.view_is

pub returns-clause-purges : goal.returns-clause-purges
returns-clause-purges g c = ap (λ t. (t.purges + 1) % 2 ^ 64) c.self.view_is

pub returns-clause-start : goal.returns-clause-start
returns-clause-start g c =
    let n = min c.args.sample_size (min (length c.args.self.now.entries) 1024) in
    let m = c.middle_of-middle.result in
    let size : c.min-size.result ≡ n = omega (arith, c.min-size.ensures, c.min.ensures, c.self.invariant.active_is, ap (λ t. length t.entries) c.self.view_is) in
    let P : Table g.row.T.Denot → Type 0 = λ t. IsSampledFrom g.T.PartialEq.eq (hash_in t.key g.T.Hash.hash_input) t (sample_start t.key t.purges t.size) n m in
    subst P c.self.view_is (sampled_from c.self.invariant.slots_ok (rw size at c.middle_of-middle.ensures.sample))

pub middle_of-middle-requires-clause-table : goal.middle_of-middle-requires-clause-table
middle_of-middle-requires-clause-table g c = c.self.invariant.slots_ok.size
