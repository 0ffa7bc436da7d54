-- When two sketches are the same.
use Rattle.std.proofs.Common.{◌≡◌, ℕ, ◌*◌, ◌<◌, Bool, List, [], length, get_or, ℤ, pos, unsigned_abs, sym, ap, ◌∙◌, subst, arith}
use Rattle.std.specs.Prelude.{All, IsTrue, ◌↔◌}
use Rattle.std.proofs.lemmas.Int.{ints}
use Rattle.std.proofs.lemmas.List.{ext_get_or}
use Rattle.std.proofs.lemmas.List.Elements.{All-get_or}
use Rattle.sketch_countmin.specs.Rows.{cell_at, rows_of}
use Rattle.sketch_countmin.specs.Table.{IsTable, state_of}
use Rattle.sketch_countmin.proofs.Tables.{rows_of-same}
use Rattle.sketch_countmin.specs.State.{CountState, IsCountState}
use Rattle.sketch_countmin.specs.History.{CountHistory, cell_share}
use Rattle.sketch_countmin.specs.Stands.{StandsFor}
use Rattle.sketch_countmin.specs.Equality.{same_parts}

-- tables of one height and width with the same cells are the same
pub rows_same : (m d : ℕ) (xs ys : List (List ℤ)) → length xs ≡ m → length ys ≡ m → All (λ row. length row ≡ d) xs → All (λ row. length row ≡ d) ys
    → ((r : ℕ) → r < m → (b : ℕ) → b < d → cell_at xs r b ≡ cell_at ys r b) → xs ≡ ys
rows_same m d xs ys lx ly wx wy same = ext_get_or [] xs ys (lx ∙ sym ly) row
  where
    row : (r : ℕ) → r < length xs → get_or xs r [] ≡ get_or ys r []
    row r lt =
        let wide : length (get_or xs r []) ≡ d = All-get_or (λ (l : List ℤ). length l ≡ d) xs r [] lt wx in
        let other : length (get_or ys r []) ≡ d = All-get_or (λ (l : List ℤ). length l ≡ d) ys r [] (omega (arith, lt, lx, ly)) wy in
        ext_get_or (pos 0) (get_or xs r []) (get_or ys r []) (wide ∙ sym other) (λ b lb. same r (omega (arith, lt, lx)) b (omega (arith, lb, wide)))

-- where the total is 0, every cell is
pub zero_cells : (greatest : ℕ) (s : CountState) → IsCountState greatest s → s.total ≡ 0 → (r b : ℕ) → cell_at s.rows r b ≡ pos 0
zero_cells greatest s i none r b = omega (arith, ints, i.bounded r b, none)

-- sketches of one shape, seed and total are the same where their lists of cells are
pub same_here : (greatest : ℕ) (seeds others : List ℕ) (d e q u : ℕ) (t v : ℤ) (xs ys : List ℤ) (same : Bool) → IsTable greatest seeds d q t xs → IsTable greatest others e u v ys
    → length seeds ≡ length others → d ≡ e → q ≡ u → t ≡ v → (IsTrue same ↔ (xs ≡ ys)) → IsTrue same ↔ (state_of seeds d q t xs ≡ state_of others e u v ys)
same_here greatest seeds others d e q u t v xs ys same i j height buckets seed total cells = (
  λ found. same_parts (state_of seeds d q t xs) (state_of others e u v ys) height buckets seed (ap unsigned_abs total) (rows found),
  λ equal. cells.1 (rows_of-same (length seeds) d xs ys (omega (arith, i.some_buckets)) i.size (j.size ∙ sym area) (ap (λ (s : CountState). s.rows) equal ∙ sym (table ys))),
)
  where
    area : length seeds * d ≡ length others * e
    area = ap (λ (m : ℕ). m * d) height ∙ ap (λ (n : ℕ). length others * n) buckets

    table : (zs : List ℤ) → rows_of (length seeds) d zs ≡ rows_of (length others) e zs
    table zs = ap (λ (m : ℕ). rows_of m d zs) height ∙ ap (λ (n : ℕ). rows_of (length others) n zs) buckets

    rows : IsTrue same → rows_of (length seeds) d xs ≡ rows_of (length others) e ys
    rows found = ap (rows_of (length seeds) d) (cells.0 found) ∙ table ys

-- a history has one sketch
pub only_state : (greatest : ℕ) (s t : CountState) (h : CountHistory) → IsCountState greatest s → IsCountState greatest t → StandsFor s h → StandsFor t h → s ≡ t
only_state greatest s t h is it a b = same_parts s t hashes buckets seed (a.total ∙ sym b.total)
    (rows_same s.hashes s.buckets s.rows t.rows is.height (it.height ∙ sym hashes) is.width (subst (λ (d : ℕ). All (λ row. length row ≡ d) t.rows) (sym buckets) it.width) at)
  where
    hashes : s.hashes ≡ t.hashes
    hashes = a.hashes ∙ sym b.hashes

    buckets : s.buckets ≡ t.buckets
    buckets = a.buckets ∙ sym b.buckets

    seed : s.seed ≡ t.seed
    seed = a.seed ∙ sym b.seed

    at : (r : ℕ) → r < s.hashes → (c : ℕ) → c < s.buckets → cell_at s.rows r c ≡ cell_at t.rows r c
    at r lr c lc =
        let there : cell_at t.rows r c ≡ cell_share t.buckets t.seed h r c = b.cells r (omega (arith, lr, hashes)) c (omega (arith, lc, buckets)) in
        let moved : cell_at t.rows r c ≡ cell_share s.buckets s.seed h r c = subst (λ (d : ℕ). cell_at t.rows r c ≡ cell_share d s.seed h r c) (sym buckets) (subst (λ (q : ℕ). cell_at t.rows r c ≡ cell_share t.buckets q h r c) (sym seed) there) in
        a.cells r lr c lc ∙ sym moved
