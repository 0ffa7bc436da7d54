use Rattle.std.proofs.Common.{◌≡◌, ℕ, List, suc, ◌+◌, ◌-◌, ◌*◌, ◌++◌, map, drop, sym, ap, ◌∙◌, arith, inr}
use Rattle.std.proofs.lemmas.Result.{err_from_is_err_and}
use Rattle.std.proofs.lemmas.List.{append-nil}
use Rattle.sketch_base.specs.Checks.{first_failing}
use Rattle.sketch_countmin.specs.Image.{numbers_in, cells_checks}
use Rattle.sketch_countmin.proofs.Reading.{cells_more, fault_more, fault_here}
use Rattle.sketch_countmin.proofs.image.read_cells.Goals as goal

pub loop-i-preserved : goal.loop-i-preserved
loop-i-preserved g c =
    let i : ℕ = c.loop-i.i in
    let n : ℕ = c.args.num_cells in
    let offset : ℕ = 24 + 8 * i in
    let next : ℕ = 24 + 8 * (i + 1) in
    let left_is : n - i ≡ suc (n - (i + 1)) = omega (arith, c.loop-i-test.true) in
    let next_is : next ≡ offset + 8 = omega arith in
    record {
      cells = cells_more g.T.CountMinValue.number c.loop-i.counts.items c.push_reserved.new.self.items _ g.T.CountMinValue.least c.args.image.now offset next (n - i) (n - (i + 1)) _ c.push_reserved.ensures.items left_is next_is c.in_ok-read_cell.ensures.value c.loop-i.invariant.cells;
      fault = fault_more g.T.CountMinValue.least g.T.CountMinValue.greatest c.args.total c.args.image.now offset next (n - i) (n - (i + 1)) left_is next_is _ c.loop-i.invariant.fault c.in_ok-read_cell.ensures.checks;
      count = omega (arith, c.push_reserved.ensures.len, c.loop-i.invariant.count);
      room = omega (arith, c.push_reserved.ensures.capacity, c.loop-i.invariant.room);
    }

pub returns-in_err-read_cell-clause-err : goal.returns-in_err-read_cell-clause-err
returns-in_err-read_cell-clause-err g c =
    let i : ℕ = c.loop-i.i in
    let n : ℕ = c.args.num_cells in
    let left_is : n - i ≡ suc (n - (i + 1)) = omega (arith, c.loop-i-test.true) in
    let p = err_from_is_err_and c.from_residual-in_err-read_cell.result c.from_residual-in_err-read_cell.ensures.1 in
    rw (p.1, p.2) (inr (c.in_err-read_cell.ensures.err.0, fault_here g.T.CountMinValue.least g.T.CountMinValue.greatest c.args.total c.args.image.now (24 + 8 * i) (24 + 8 * (i + 1)) (n - i) (n - (i + 1)) left_is (omega arith) _ _ c.loop-i.invariant.fault c.in_err-read_cell.ensures.err.1))

pub loop-i-init : goal.loop-i-init
loop-i-init g c =
    let least = g.T.CountMinValue.least in
    let rest : List ℕ = drop 24 c.args.image.now in
    let all : c.args.num_cells ≡ c.args.num_cells - 0 = omega arith in
    record {
      cells = ap (λ (xs : List g.row.T.Denot). map g.T.CountMinValue.number xs ++ numbers_in least (c.args.num_cells - 0) rest) c.in_ok-counts.ensures.items ∙ ap (λ (n : ℕ). numbers_in least n rest) (sym all);
      fault = ap (λ (n : ℕ). first_failing (cells_checks least g.T.CountMinValue.greatest c.args.total (numbers_in least n rest))) all;
      count = c.in_ok-counts.ensures.len;
      room = omega (arith, c.in_ok-counts.ensures.capacity);
    }

pub overflow_add-i : goal.overflow_add-i
overflow_add-i g c = omega (arith, c.requires, c.loop-i-test.true)

pub read_cell-requires : goal.read_cell-requires
read_cell-requires g c = omega (arith, c.requires, c.loop-i-test.true)

pub push_reserved-requires : goal.push_reserved-requires
push_reserved-requires g c = omega (arith, c.loop-i.invariant.count, c.loop-i.invariant.room, c.loop-i-test.true)

pub returns-clause-value : goal.returns-clause-value
returns-clause-value g c =
    let items = map g.T.CountMinValue.number c.loop-i.counts.items in
    let none : 0 ≡ c.args.num_cells - c.loop-i.i = omega arith in
    sym (append-nil items) ∙ (ap (λ (n : ℕ). items ++ numbers_in g.T.CountMinValue.least n (drop (24 + 8 * c.loop-i.i) c.args.image.now)) none ∙ c.loop-i.invariant.cells)

pub returns-clause-checks : goal.returns-clause-checks
returns-clause-checks g c =
    let none : c.args.num_cells - c.loop-i.i ≡ 0 = omega arith in
    c.loop-i.invariant.fault ∙ ap (λ (n : ℕ). first_failing (cells_checks g.T.CountMinValue.least g.T.CountMinValue.greatest c.args.total (numbers_in g.T.CountMinValue.least n (drop (24 + 8 * c.loop-i.i) c.args.image.now)))) none
