use Rattle.std.proofs.lemmas.Bool.{eqb-true}
use Rattle.sketch_base.proofs.Ascii.{none_high}
use Rattle.sketch_base.proofs.utf8.are_ascii.Goals as goal

pub returns : goal.returns
returns g c none = none_high c.args.bytes.now c.args.at g.row.N c.requires.few c.requires.room (eqb-true _ 0 none)
