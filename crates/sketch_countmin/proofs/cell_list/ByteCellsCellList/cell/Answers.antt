use Rattle.std.proofs.Common.{◌+◌, ◌*◌, ◌<◌, ◌≤◌, length, List, ℤ, pos, get_or, unsigned_abs, sym, ap, subst, ◌∙◌, arith}
use Rattle.std.specs.Int.{w128}
use Rattle.std.proofs.lemmas.Int.{to_z-of_z}
use Rattle.sketch_countmin.specs.View.{nearest, cells_of_bytes}
use Rattle.sketch_countmin.proofs.ByteCells.{cell_of_bytes, cell_within}
use Rattle.sketch_countmin.proofs.cell_list.ByteCellsCellList.cell.Given as given
use Rattle.sketch_countmin.proofs.cell_list.ByteCellsCellList.cell.Goals as goal
use Rattle.sketch_countmin.proofs.cell_list.ByteCellsCellList.cell.Goals.{After-number_of-arg-1}

-- the index is one of the bytes' cells
there : (g : given.Over) (c : After-number_of-arg-1 g) → c.args.index < length (cells_of_bytes g.T.CountMinValue.least (unsigned_abs (g.T.CountMinValue.number c.self.inside.total)) c.self.inside.bytes.now)
there g c = subst (λ (cells : List ℤ). c.args.index < length cells) (sym c.self.view_is) c.requires

pub number_of-requires : goal.number_of-requires
number_of-requires g c = cell_within g.T.CountMinValue.least (unsigned_abs (g.T.CountMinValue.number c.self.inside.total)) c.self.inside.bytes.now c.args.index (there g c)

pub overflow_mul-index : goal.overflow_mul-index
overflow_mul-index g c =
    let within : 8 * c.args.index + 8 ≤ length c.self.inside.bytes.now = number_of-requires g c in
    record { fits = omega (arith, within, c.self.told.0) }

pub returns : goal.returns
returns g c =
    let total = unsigned_abs (g.T.CountMinValue.number c.self.inside.total) in
    let least = g.T.CountMinValue.least in
    c.nearest_value.ensures
    ∙ ap (nearest least total) (to_z-of_z w128 c.number_of.result (record { sfits = c.number_of.type_inv }) ∙ c.number_of.ensures)
    ∙ sym (cell_of_bytes least total c.self.inside.bytes.now c.args.index (there g (goal.at.returns g c).After-number_of-arg-1))
    ∙ ap (λ (cells : List ℤ). get_or cells c.args.index (pos 0)) c.self.view_is
