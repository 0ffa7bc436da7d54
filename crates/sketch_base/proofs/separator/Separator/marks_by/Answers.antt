use Rattle.std.proofs.Common.{◌+◌, ◌*◌, ◌-◌, ◌^◌, length, arith, sym, ◌∙◌, ap}
use Rattle.sketch_base.specs.Split.{separates}
use Rattle.sketch_base.proofs.Marks.{next_fits, next_marks, last_marks, none_left}
use Rattle.sketch_base.proofs.separator.Separator.marks_by.Goals as goal

pub overflow_add-marks : goal.overflow_add-marks
overflow_add-marks g c =
    omega (arith, next_fits (separates c.args.self) c.args.bytes.now c.loop-at.at g.row.N c.loop-at.marks c.marks-found.result c.requires.few c.loop-at.invariant.1 c.marks-found.ensures)

pub loop-at-preserved : goal.loop-at-preserved
loop-at-preserved g c = (
  omega arith,
  next_marks (separates c.args.self) c.args.bytes.now c.loop-at.at g.row.N c.loop-at.marks c.marks-found.result c.requires.few c.loop-at.invariant.1 c.marks-found.ensures,
)

pub overflow_add-result : goal.overflow_add-result
overflow_add-result g c =
    let found = last_marks (separates c.args.self) c.args.bytes.now (length c.args.bytes.now - g.row.N) c.loop-at.at g.row.N c.marks.result (omega arith) c.loop-at-test.false c.marks.ensures in
    omega (arith, next_fits (separates c.args.self) c.args.bytes.now c.loop-at.at g.row.N c.loop-at.marks _ c.requires.few c.loop-at.invariant.1 found)

pub returns : goal.returns
returns g c =
    let found = last_marks (separates c.args.self) c.args.bytes.now (length c.args.bytes.now - g.row.N) c.loop-at.at g.row.N c.marks.result (omega arith) c.loop-at-test.false c.marks.ensures in
    let none = none_left (separates c.args.self) c.args.bytes.now (length c.args.bytes.now - g.row.N) c.loop-at.at g.row.N c.marks.result (omega arith) c.loop-at-test.false c.marks.ensures in
    let all = next_marks (separates c.args.self) c.args.bytes.now c.loop-at.at g.row.N c.loop-at.marks _ c.requires.few c.loop-at.invariant.1 found in
    sym (all ∙ omega (arith, ap (λ k. k * 2 ^ (c.loop-at.at + g.row.N)) none))
