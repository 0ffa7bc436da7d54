use Rattle.std.proofs.Common.{take, ◌∷◌}
use Rattle.sketch_text.proofs.MadeItems.{HasMade}
use Rattle.sketch_text.proofs.columns.append_joined.Given as goal

abbrev pub invariant-more : goal.invariant-more
invariant-more l = HasMade l.split l.row (l.fn.chosen.first ∷ take l.column-index l.more) l.text.items
