use Rattle.std.proofs.Common.{Some, sym, ◌∙◌, ap}
use Rattle.datasketches.proofs.Names.{value_found, value_missing, seen}
use Rattle.datasketches.proofs.name_map.NameMap.get.Goals as goal

pub returns-in-None : goal.returns-in-None
returns-in-None g c = value_missing _ _ _ c.args.name.now c.self.invariant (seen c.self.view_is) c.in-None.ensures

pub returns-in-Some : goal.returns-in-Some
returns-in-Some g c =
    value_found _ _ _ c.args.name.now c.in-Some.index c.index.result.now c.self.invariant (seen c.self.view_is) c.in-Some.ensures ∙ ap Some (sym c.index.ensures)
