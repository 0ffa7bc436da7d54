use mathlib.Core.List.{nil-subset}
use Rattle.std.proofs.Common.{ap, arith, ◌≡◌, ◌∙◌, refl}
use Rattle.std.proofs.lemmas.Bool.{false≢true}
use Rattle.std.proofs.lemmas.Result.{err_from_is_err_and}
use Rattle.counter_table.specs.Slots.{table_of}
use Rattle.counter_table.proofs.InsertionCounts.{counted_put}
use Rattle.counter_table.proofs.reverse_purge_item_hash_map.ReversePurgeItemHashMap.adjust_or_put_hashed.Given as given
use Rattle.counter_table.proofs.reverse_purge_item_hash_map.ReversePurgeItemHashMap.adjust_or_put_hashed.Goals as goal
use Rattle.counter_table.proofs.reverse_purge_item_hash_map.ReversePurgeItemHashMap.adjust_or_put_hashed.Goals.{then-branch, else-branch}

pub invariant_of-self-then-branch : goal.invariant_of-self-then-branch
invariant_of-self-then-branch g c = (counted_put c.self.invariant c.put_hashed.ensures.slots (g.met.K.ItemKey.respects_eq c.args.key) c.args.adjust_amount c.in_ok-put_hashed.ensures.entries _ c.in_ok-put_hashed.ensures.tracked).0 c.if-branch.true

pub invariant_of-self-else-branch : goal.invariant_of-self-else-branch
invariant_of-self-else-branch g c = (counted_put c.self.invariant c.put_hashed.ensures.slots (g.met.K.ItemKey.respects_eq c.args.key) c.args.adjust_amount c.in_ok-put_hashed.ensures.entries _ c.in_ok-put_hashed.ensures.tracked).1 c.if-branch.false

pub invariant_of-self : goal.invariant_of-self
invariant_of-self g c = rw c.in_err-put_hashed.ensures.err c.self.invariant

pub put_hashed-requires : goal.put_hashed-requires
put_hashed-requires g c = record { hash = rw (← c.self.view_is) at c.requires.hash; slots = c.self.invariant.slots_ok; room = rw (← c.self.view_is) at c.requires.room; fits = rw (← c.self.view_is) at c.requires.fits }

pub overflow_add-self : goal.overflow_add-self
overflow_add-self g c = omega (arith, c.self.invariant.active_is, c.self.invariant.slots_ok.room, c.self.invariant.slots_ok.size.limit)

table : (g : given.Over) (c : goal.Joined-branch g) → c.if-branch.self ≡ table_of c.put_hashed.new.self.key c.self.inside.purges c.put_hashed.new.self.slots
table g c = elim c.if-branch.branch [
  | then-branch w ↦ w.self-is
  | else-branch w ↦ w.self-is
]

pub returns : goal.returns
returns g c =
    let p = c.put_hashed.ensures in
    let puts = c.in_ok-put_hashed.ensures.entries in
    rw (table g c, ← c.self.view_is) (record {
      entries = puts;
      size = p.size;
      key = p.key;
      purges = refl;
      distinct = p.slots.distinct;
      err = tt;
      memory = tt;
      succeeds = λ _. refl;
      infallible = λ _. refl;
    })

pub returns-in_err-put_hashed : goal.returns-in_err-put_hashed
returns-in_err-put_hashed g c =
    let w = c.in_err-put_hashed.ensures in
    let e = err_from_is_err_and c.from_residual.result c.from_residual.ensures.1 in
    let same = ap (λ t. table_of t.key c.self.inside.purges t.slots) w.err ∙ c.self.view_is in
    record {
      entries = rw e.1 tt;
      size = ap (λ t. t.size) same;
      key = ap (λ t. t.key) same;
      purges = ap (λ t. t.purges) same;
      distinct = c.put_hashed.ensures.slots.distinct;
      err = rw e.1 same;
      memory = rw e.1 (e.2 ∙ w.memory);
      succeeds = λ there. absurd (false≢true (w.succeeds (rw (← c.self.view_is) at there)));
      infallible = λ free. absurd (false≢true (w.infallible free));
    }

pub branch-put_hashed-requires : goal.branch-put_hashed-requires
branch-put_hashed-requires g c κs = (nil-subset _, nil-subset _)

pub from_residual-requires : goal.from_residual-requires
from_residual-requires g c κs = (nil-subset _, (nil-subset _, nil-subset _))
