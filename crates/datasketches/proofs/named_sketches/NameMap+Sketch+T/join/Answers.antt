use Rattle.std.proofs.Common.{◌≡◌, ◌≢◌, List, length, set, Some, sym, ◌∙◌, ap, subst}
use Rattle.std.specs.Option.{is_some}
use Rattle.std.specs.Vec.{with_items}
use Rattle.std.proofs.lemmas.List.{length-set, with_items_is}
use Rattle.datasketches.specs.declared.sketch.Sketch.{Sketch}
use Rattle.datasketches.specs.Names.{AreIndices, listed, Puts}
use Rattle.datasketches.proofs.Names.{value_missing, is_named, one_index, placed_at, seen, written}
use Rattle.datasketches.proofs.Steps.{joins_into_none, joins_from_none, joins_itself, joins_two}
use Rattle.datasketches.proofs.named_sketches.NameMap+Sketch+T.join.Goals as goal

pub returns-in_default-clause-joins : goal.returns-in_default-clause-joins
returns-in_default-clause-joins g c =
    joins_into_none g.T.PartialEq.eq g.J.Joining.join c.args.into.now c.args.other.now c.args.self.now.entries (value_missing _ _ _ c.args.into.now c.self.invariant (seen c.self.view_is) c.in_default.ensures)

pub returns-in_default-index_of-clause-joins : goal.returns-in_default-index_of-clause-joins
returns-in_default-index_of-clause-joins g c =
    joins_from_none g.T.PartialEq.eq g.J.Joining.join c.args.into.now c.args.other.now c.args.self.now.entries (value_missing _ _ _ c.args.other.now c.self.invariant (seen c.self.view_is) c.in_default-index_of.ensures)

pub returns-then-index-from-clause-joins : goal.returns-then-index-from-clause-joins
returns-then-index-from-clause-joins g c =
    let into = is_named _ _ _ c.args.into.now c.self.invariant (seen c.self.view_is) ∙ sym (ap is_some c.in-Some.ensures) in
    let other = is_named _ _ _ c.args.other.now c.self.invariant (seen c.self.view_is) ∙ sym (ap is_some c.in-Some-index_of.ensures) in
    let same = c.self.invariant.apart c.args.into.now c.args.other.now c.in-Some.index (sym c.in-Some.ensures) (sym c.in-Some-index_of.ensures ∙ ap Some (sym c.if-index-from.true)) in
    joins_itself g.T.PartialEq.eq g.J.Joining.join c.args.into.now c.args.other.now c.args.self.now.entries into other same

pub invariant_of-self : goal.invariant_of-self
invariant_of-self g c =
    let joined = rw c.deref_mut.ensures.value at c.join_at.ensures in
    let as_long : length c.join_at.new.sketches ≡ length c.self.inside.values.items = ap length joined.new_is ∙ length-set _ _ _ in
    let items = with_items_is c.self.inside.values c.join_at.new.sketches (as_long ∙ sym c.self.inside.values.ok.0) in
    subst (λ n. AreIndices c.self.inside.indices.entries n) (sym (ap length items ∙ as_long)) c.self.invariant

pub returns-clause-joins : goal.returns-clause-joins
returns-clause-joins g c =
    let joined = rw c.deref_mut.ensures.value at c.join_at.ensures in
    let into = placed_at _ _ _ c.args.into.now c.in-Some.index _ c.self.invariant (seen c.self.view_is) c.in-Some.ensures joined.into_is in
    let other = placed_at _ _ _ c.args.other.now c.in-Some-index_of.from _ c.self.invariant (seen c.self.view_is) c.in-Some-index_of.ensures joined.from_is in
    let same_length : length c.join_at.new.sketches ≡ c.self.inside.values.len = ap length joined.new_is ∙ length-set _ _ _ ∙ sym c.self.inside.values.ok.0 in
    let items : (with_items c.self.inside.values c.join_at.new.sketches).items ≡ set c.self.inside.values.items c.in-Some.index joined.after = with_items_is c.self.inside.values c.join_at.new.sketches same_length ∙ joined.new_is in
    let apart : c.args.into.now ≢ c.args.other.now = λ same. c.if-index-from.false (one_index _ _ _ _ _ same c.in-Some.ensures c.in-Some-index_of.ensures) in
    joins_two g.T.PartialEq.eq g.J.Joining.join c.args.into.now c.args.other.now c.args.self.now.entries _ _ joined.sketch joined.from joined.after into other apart joined.does
    (subst (λ (l : List (Sketch g.row.T.Denot)). Puts c.args.into.now joined.after c.args.self.now.entries (listed c.self.inside.indices.entries l)) (sym items)
    (written _ _ _ c.args.into.now c.in-Some.index joined.after c.self.invariant (seen c.self.view_is) c.in-Some.ensures))
