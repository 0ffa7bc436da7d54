use Rattle.std.proofs.Common.{ℕ, length, sym, ◌∙◌, ap, subst}
use Rattle.std.specs.String.{string_bytes}
use Rattle.std.proofs.lemmas.List.{length-append}
use Rattle.datasketches.specs.Names.{AreIndices}
use Rattle.datasketches.proofs.Names.{placed, still_places, added, seen}
use Rattle.datasketches.proofs.name_map.NameMap.insert.Goals as goal

pub invariant_of-self-in-Ok : goal.invariant_of-self-in-Ok
invariant_of-self-in-Ok g c =
    let is = placed (string_bytes c.args.name) _ c.self.inside.indices c.insert.new.self (rw (c.len-index.ensures, c.self.inside.values.ok.0) at c.in-Ok.ensures.updates) in
    subst (λ (n : ℕ). AreIndices c.insert.new.self.entries n) (sym (ap length c.in_ok-push.ensures.items ∙ length-append _ _)) (still_places _ _ _ (string_bytes c.args.name) c.self.invariant is)

pub returns-in-Ok-clause-put : goal.returns-in-Ok-clause-put
returns-in-Ok-clause-put g c =
    let is = placed (string_bytes c.args.name) _ c.self.inside.indices c.insert.new.self (rw (c.len-index.ensures, c.self.inside.values.ok.0) at c.in-Ok.ensures.updates) in
    rw c.in_ok-push.ensures.items (added _ _ _ _ (string_bytes c.args.name) c.args.value c.self.invariant (seen c.self.view_is) is)
