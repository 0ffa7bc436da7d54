use Rattle.std.proofs.Common.{◌≡◌, ◌++◌, Bool, List, [], ◌+◌, length, set, ap, sym, ◌∙◌, subst, arith}
use Rattle.std.specs.Prelude.{IsTrue}
use Rattle.counter_table.specs.declared.table_key.TableKey.TheVariants.{Keyed}
use Rattle.sketch_frequencies.specs.Bounds.{bounds_by_key, BoundWeight}
use Rattle.sketch_frequencies.specs.KeysAhead.{AreHashed, names_ahead}
use Rattle.sketch_frequencies.specs.declared.item_bounds.ItemBounds.{ItemBounds}
use Rattle.sketch_frequencies.proofs.KeyedAhead.{one_more, two_more, all_written, all_hold, bounds_hold, second_there}
use Rattle.sketch_frequencies.proofs.frequent_items_sketch.FrequentItemsSketch.bounds_all_keyed.Goals as goal

pub returns-in-End : goal.returns-in-End
returns-in-End g c =
    let names = g.K.Key.ItemKey.names in
    let all = g.K.Keys.names c.args.keys in
    let later = g.K.Keys.names c.each.keys in
    let left = names_ahead names c.each.now ++ later in
    let s = c.args.self.now in
    let f : (g.row.T.Denot → Bool) → ItemBounds = λ n. bounds_by_key n s in
    let R : (g.row.T.Denot → Bool) → ItemBounds → Type 0 = λ n b. (x : g.row.T.Denot) → IsTrue (n x) → BoundWeight g.T.PartialEq.eq s x b in
    let i = c.each.invariant in
    let long : length c.each.bounds ≡ length all = omega (arith, c.requires.same) in
    let none : left ≡ [] = ap (λ a. names_ahead names a ++ later) c.in-End.is ∙ subst (λ a. AreHashed g.K.Key.Item.bytes (Keyed c.args.secret) a later) c.in-End.is i.hashed in
    record { value = all_written f all left c.each.bounds c.each.i long i.left none i.value; bound = all_hold R all left c.each.bounds c.each.i long i.left none i.holds }

pub returns-in-One : goal.returns-in-One
returns-in-One g c =
    let names = g.K.Key.ItemKey.names in
    let all = g.K.Keys.names c.args.keys in
    let later = g.K.Keys.names c.each.keys in
    let left = names_ahead names c.each.now ++ later in
    let s = c.args.self.now in
    let f : (g.row.T.Denot → Bool) → ItemBounds = λ n. bounds_by_key n s in
    let R : (g.row.T.Denot → Bool) → ItemBounds → Type 0 = λ n b. (x : g.row.T.Denot) → IsTrue (n x) → BoundWeight g.T.PartialEq.eq s x b in
    let i = c.each.invariant in
    let long : length c.each.bounds ≡ length all = omega (arith, c.requires.same) in
    let none = (subst (λ a. AreHashed g.K.Key.Item.bytes (Keyed c.args.secret) a later) c.in-One.is i.hashed).1 in
    let answer = c.bounds_hashed.ensures in
    let one = one_more f R all left later c.each.bounds c.each.i (names c.in-One.key) c.bounds_hashed.result long i.left (ap (λ a. names_ahead names a ++ later) c.in-One.is) answer (bounds_hold g.T.PartialEq.eq (names c.in-One.key) (g.met.K.Key.ItemKey.respects_eq c.in-One.key) s _ answer) i.value i.holds in
    let new : List ItemBounds = set c.each.bounds c.each.i c.bounds_hashed.result in
    record { value = all_written f all later new (c.each.i + 1) one.long one.left none one.value; bound = all_hold R all later new (c.each.i + 1) one.long one.left none one.holds }

pub bounds-bounds-i-in-Two-2 : goal.bounds-bounds-i-in-Two-2
bounds-bounds-i-in-Two-2 g c =
    let names = g.K.Key.ItemKey.names in
    let all = g.K.Keys.names c.args.keys in
    let later = g.K.Keys.names c.each.keys in
    let left = names_ahead names c.each.now ++ later in
    let s = c.args.self.now in
    let f : (g.row.T.Denot → Bool) → ItemBounds = λ n. bounds_by_key n s in
    let R : (g.row.T.Denot → Bool) → ItemBounds → Type 0 = λ n b. (x : g.row.T.Denot) → IsTrue (n x) → BoundWeight g.T.PartialEq.eq s x b in
    let i = c.each.invariant in
    let long : length c.each.bounds ≡ length all = omega (arith, c.requires.same) in
    second_there all left later c.each.bounds c.each.i (names c.in-Two.first) (names c.in-Two.second) c.bounds_hashed-in-Two.result long i.left (ap (λ a. names_ahead names a ++ later) c.in-Two.is)

pub each-preserved : goal.each-preserved
each-preserved g c =
    let names = g.K.Key.ItemKey.names in
    let all = g.K.Keys.names c.args.keys in
    let later = g.K.Keys.names c.each.keys in
    let left = names_ahead names c.each.now ++ later in
    let s = c.args.self.now in
    let f : (g.row.T.Denot → Bool) → ItemBounds = λ n. bounds_by_key n s in
    let R : (g.row.T.Denot → Bool) → ItemBounds → Type 0 = λ n b. (x : g.row.T.Denot) → IsTrue (n x) → BoundWeight g.T.PartialEq.eq s x b in
    let i = c.each.invariant in
    let long : length c.each.bounds ≡ length all = omega (arith, c.requires.same) in
    let first = c.bounds_hashed-in-Two.ensures in
    let second = c.bounds_hashed-in-Two-2.ensures in
    let two = two_more f R all left later c.each.bounds c.each.i (names c.in-Two.first) (names c.in-Two.second) c.bounds_hashed-in-Two.result c.bounds_hashed-in-Two-2.result long i.left (ap (λ a. names_ahead names a ++ later) c.in-Two.is) first second
    (bounds_hold g.T.PartialEq.eq (names c.in-Two.first) (g.met.K.Key.ItemKey.respects_eq c.in-Two.first) s _ first) (bounds_hold g.T.PartialEq.eq (names c.in-Two.second) (g.met.K.Key.ItemKey.respects_eq c.in-Two.second) s _ second) i.value i.holds in
    let next = c.keys_ahead-now-in-Two.ensures in
    record { left = sym next.parts ∙ two.left; value = two.value; holds = two.holds; hashed = next.hashed }
