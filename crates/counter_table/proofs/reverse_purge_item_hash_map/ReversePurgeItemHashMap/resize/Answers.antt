use mathlib.Core.List.{nil-subset}
use Rattle.std.proofs.Common.{arith, refl, ap, ◌∙◌, length}
use Rattle.std.proofs.lemmas.List.Sorted.{length_permutation, IsPermutation-refl}
use Rattle.std.proofs.lemmas.Result.{err_from_is_err_and}
use Rattle.counter_table.specs.Slots.{entries_of}
use Rattle.counter_table.proofs.GrowthMoves.{made_free}
use Rattle.counter_table.proofs.InsertionCounts.{table_size_of}
use Rattle.counter_table.proofs.reverse_purge_item_hash_map.ReversePurgeItemHashMap.resize.Goals as goal

pub move_all-requires : goal.move_all-requires
move_all-requires g c =
    let new = made_free _ _ (ap (λ t. t.slots) (c.replace-old.ensures.after ∙ c.in_ok-table.ensures.ok)) in
    record {
      distinct = rw c.replace-old.ensures.value c.self.invariant.slots_ok.distinct;
      room = rw (new.1, c.replace-old.ensures.value) (rw (← c.self.view_is) at c.requires.room);
      size = table_size_of _ _ new.1 c.requires.power c.requires.limit;
      free = new.0;
    }

pub invariant_of-self : goal.invariant_of-self
invariant_of-self g c =
    let moved = ap (λ l. length (entries_of l.slots)) c.replace-old.ensures.value in
    record {
      slots_ok = c.move_all.ensures.slots;
      active_is = omega (arith, c.self.invariant.active_is, moved, length_permutation _ _ c.move_all.ensures.entries);
    }

pub returns-in_err-table : goal.returns-in_err-table
returns-in_err-table g c =
    let e = err_from_is_err_and c.from_residual.result c.from_residual.ensures.1 in
    record { entries = IsPermutation-refl _; ok = rw e.1 tt; key = refl; purges = refl; err = rw e.1 refl; memory = rw e.1 (e.2 ∙ c.in_err-table.ensures.err); distinct = rw (← c.self.view_is) c.self.invariant.slots_ok.distinct }

pub returns : goal.returns
returns g c = record {
  entries = rw (← c.self.view_is) (rw c.replace-old.ensures.value at c.move_all.ensures.entries);
  ok = c.move_all.ensures.size ∙ (made_free _ _ (ap (λ t. t.slots) (c.replace-old.ensures.after ∙ c.in_ok-table.ensures.ok))).1;
  key = c.move_all.ensures.key ∙ (ap (λ t. t.key) (c.replace-old.ensures.after ∙ c.in_ok-table.ensures.ok) ∙ c.key.ensures);
  purges = ap (λ t. t.purges) c.self.view_is;
  err = tt;
  memory = tt;
  distinct = c.move_all.ensures.slots.distinct;
}

pub from_residual-requires : goal.from_residual-requires
from_residual-requires g c κs = (nil-subset _, (nil-subset _, nil-subset _))
