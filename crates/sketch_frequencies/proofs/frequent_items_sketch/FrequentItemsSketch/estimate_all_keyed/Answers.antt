use Rattle.std.proofs.Common.{◌≡◌, ℕ, ◌++◌, Bool, List, [], ◌+◌, length, set, ap, sym, ◌∙◌, subst, arith}
use Rattle.std.specs.Prelude.{IsTrue}
use Rattle.counter_table.specs.declared.table_key.TableKey.TheVariants.{Keyed}
use Rattle.sketch_frequencies.specs.State.{estimate_by_key}
use Rattle.sketch_frequencies.specs.Stands.{IsExactOfFew}
use Rattle.sketch_frequencies.specs.KeysAhead.{AreHashed, names_ahead}
use Rattle.sketch_frequencies.proofs.KeyedAhead.{one_more, two_more, all_written, all_hold, estimate_holds, second_there}
use Rattle.sketch_frequencies.proofs.frequent_items_sketch.FrequentItemsSketch.estimate_all_keyed.Goals as goal

pub returns-in-End : goal.returns-in-End
returns-in-End g c =
    let names = g.K.Key.ItemKey.names in
    let all = g.K.Keys.names c.args.keys in
    let later = g.K.Keys.names c.each.keys in
    let left = names_ahead names c.each.now ++ later in
    let s = c.args.self.now in
    let f : (g.row.T.Denot → Bool) → ℕ = λ n. estimate_by_key n s in
    let R : (g.row.T.Denot → Bool) → ℕ → Type 0 = λ n b. (x : g.row.T.Denot) → IsTrue (n x) → IsExactOfFew g.T.PartialEq.eq s x b in
    let i = c.each.invariant in
    let long : length c.each.estimates ≡ length all = omega (arith, c.requires.same) in
    let none : left ≡ [] = ap (λ a. names_ahead names a ++ later) c.in-End.is ∙ subst (λ a. AreHashed g.K.Key.Item.bytes (Keyed c.args.secret) a later) c.in-End.is i.hashed in
    record { value = all_written f all left c.each.estimates c.each.i long i.left none i.value; exact = all_hold R all left c.each.estimates c.each.i long i.left none i.holds }

pub returns-in-One : goal.returns-in-One
returns-in-One g c =
    let names = g.K.Key.ItemKey.names in
    let all = g.K.Keys.names c.args.keys in
    let later = g.K.Keys.names c.each.keys in
    let left = names_ahead names c.each.now ++ later in
    let s = c.args.self.now in
    let f : (g.row.T.Denot → Bool) → ℕ = λ n. estimate_by_key n s in
    let R : (g.row.T.Denot → Bool) → ℕ → Type 0 = λ n b. (x : g.row.T.Denot) → IsTrue (n x) → IsExactOfFew g.T.PartialEq.eq s x b in
    let i = c.each.invariant in
    let long : length c.each.estimates ≡ length all = omega (arith, c.requires.same) in
    let none = (subst (λ a. AreHashed g.K.Key.Item.bytes (Keyed c.args.secret) a later) c.in-One.is i.hashed).1 in
    let answer = c.estimate_hashed.ensures in
    let one = one_more f R all left later c.each.estimates c.each.i (names c.in-One.key) c.estimate_hashed.result long i.left (ap (λ a. names_ahead names a ++ later) c.in-One.is) answer (estimate_holds g.T.PartialEq.eq (names c.in-One.key) (g.met.K.Key.ItemKey.respects_eq c.in-One.key) s _ answer) i.value i.holds in
    let new : List ℕ = set c.each.estimates c.each.i c.estimate_hashed.result in
    record { value = all_written f all later new (c.each.i + 1) one.long one.left none one.value; exact = all_hold R all later new (c.each.i + 1) one.long one.left none one.holds }

pub bounds-estimates-i-in-Two-2 : goal.bounds-estimates-i-in-Two-2
bounds-estimates-i-in-Two-2 g c =
    let names = g.K.Key.ItemKey.names in
    let all = g.K.Keys.names c.args.keys in
    let later = g.K.Keys.names c.each.keys in
    let left = names_ahead names c.each.now ++ later in
    let s = c.args.self.now in
    let f : (g.row.T.Denot → Bool) → ℕ = λ n. estimate_by_key n s in
    let R : (g.row.T.Denot → Bool) → ℕ → Type 0 = λ n b. (x : g.row.T.Denot) → IsTrue (n x) → IsExactOfFew g.T.PartialEq.eq s x b in
    let i = c.each.invariant in
    let long : length c.each.estimates ≡ length all = omega (arith, c.requires.same) in
    second_there all left later c.each.estimates c.each.i (names c.in-Two.first) (names c.in-Two.second) c.estimate_hashed-in-Two.result long i.left (ap (λ a. names_ahead names a ++ later) c.in-Two.is)

pub each-preserved : goal.each-preserved
each-preserved g c =
    let names = g.K.Key.ItemKey.names in
    let all = g.K.Keys.names c.args.keys in
    let later = g.K.Keys.names c.each.keys in
    let left = names_ahead names c.each.now ++ later in
    let s = c.args.self.now in
    let f : (g.row.T.Denot → Bool) → ℕ = λ n. estimate_by_key n s in
    let R : (g.row.T.Denot → Bool) → ℕ → Type 0 = λ n b. (x : g.row.T.Denot) → IsTrue (n x) → IsExactOfFew g.T.PartialEq.eq s x b in
    let i = c.each.invariant in
    let long : length c.each.estimates ≡ length all = omega (arith, c.requires.same) in
    let first = c.estimate_hashed-in-Two.ensures in
    let second = c.estimate_hashed-in-Two-2.ensures in
    let two = two_more f R all left later c.each.estimates c.each.i (names c.in-Two.first) (names c.in-Two.second) c.estimate_hashed-in-Two.result c.estimate_hashed-in-Two-2.result long i.left (ap (λ a. names_ahead names a ++ later) c.in-Two.is) first second
    (estimate_holds g.T.PartialEq.eq (names c.in-Two.first) (g.met.K.Key.ItemKey.respects_eq c.in-Two.first) s _ first) (estimate_holds g.T.PartialEq.eq (names c.in-Two.second) (g.met.K.Key.ItemKey.respects_eq c.in-Two.second) s _ second) i.value i.holds in
    let next = c.keys_ahead-now-in-Two.ensures in
    record { left = sym next.parts ∙ two.left; value = two.value; holds = two.holds; hashed = next.hashed }
