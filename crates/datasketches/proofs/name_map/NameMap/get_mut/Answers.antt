use Rattle.std.proofs.Common.{Some, refl, sym, ◌∙◌, ap}
use Rattle.datasketches.proofs.Names.{value_found, value_missing, written, seen, hashed}
use Rattle.datasketches.proofs.name_map.NameMap.get_mut.Goals as goal

pub returns-in-None : goal.returns-in-None
returns-in-None g c =
    ((refl, λ w. tt, c.self.view_is), sym (value_missing _ _ _ c.args.name.now c.self.invariant (seen c.self.view_is) c.in-None.ensures))

pub returns-in-Some : goal.returns-in-Some
returns-in-Some g c =
    let found = value_found _ _ _ c.args.name.now c.in-Some.index c.index_mut.result.now c.self.invariant (seen c.self.view_is) c.in-Some.ensures in (
      (refl, λ w. record { put = written _ _ _ c.args.name.now c.in-Some.index w c.self.invariant (seen c.self.view_is) c.in-Some.ensures; hasher = hashed c.self.view_is }, refl),
      sym (found ∙ ap Some (sym c.index_mut.ensures.value)),
    )
