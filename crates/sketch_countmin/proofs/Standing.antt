-- Each call keeps what a sketch says of its history.
use Rattle.std.proofs.Common.{◌≡◌, ℕ, ◌+◌, ◌*◌, ◌/◌, ◌<◌, List, [], get_or, replicate, ℤ, pos, ◌+ℤ◌, unsigned_abs, refl, sym, ap, ◌∙◌, subst, arith}
use Rattle.std.specs.Prelude.{◌==◌, if◌then◌else◌}
use Rattle.std.proofs.lemmas.List.{get_or-replicate}
use Rattle.sketch_countmin.specs.Values.{scaled, halved}
use Rattle.sketch_countmin.specs.Rows.{cell_at}
use Rattle.sketch_countmin.specs.Buckets.{bucket_of}
use Rattle.sketch_countmin.specs.State.{CountState, Counts, Joins, empty_state, halved_state, decayed_state}
use Rattle.sketch_countmin.specs.History.{CountHistory, absolute_weight, cell_share}
use Rattle.sketch_countmin.specs.History.CountHistory.{New, Update, Merge, Halve, Decay}
use Rattle.sketch_countmin.specs.Stands.{StandsFor}
use Rattle.sketch_countmin.proofs.Decays.{cell_map, scaled_zero}

-- a new sketch
pub stands_empty : (hashes buckets seed : ℕ) → StandsFor (empty_state hashes buckets seed) (New hashes buckets seed)
stands_empty hashes buckets seed = record {
  hashes = refl;
  buckets = refl;
  seed = refl;
  total = refl;
  cells = λ r lr b lb.
      ap (λ (row : List ℤ). get_or row b (pos 0)) (get_or-replicate hashes r (replicate buckets (pos 0)) [] lr) ∙ get_or-replicate buckets b (pos 0) (pos 0) lb;
}

-- an update
pub stands_counted : (old new : CountState) (bytes : List ℕ) (w : ℤ) (h : CountHistory) → Counts old bytes w new → StandsFor old h → StandsFor new (Update h bytes w)
stands_counted old new bytes w h step s = record {
  hashes = step.shape.hashes ∙ s.hashes;
  buckets = step.shape.buckets ∙ s.buckets;
  seed = step.shape.seed ∙ s.seed;
  total = step.total ∙ ap (λ (n : ℕ). n + unsigned_abs w) s.total;
  cells = λ r lr b lb.
      let there : r < old.hashes = omega (arith, lr, step.shape.hashes) in
      let within : b < old.buckets = omega (arith, lb, step.shape.buckets) in
      subst (λ (d : ℕ). cell_at new.rows r b ≡ cell_share d new.seed (Update h bytes w) r b) (sym step.shape.buckets)
      (subst (λ (seed : ℕ). cell_at new.rows r b ≡ cell_share old.buckets seed (Update h bytes w) r b) (sym step.shape.seed)
      (step.cells r there b within ∙ ap (λ (z : ℤ). z +ℤ (if bucket_of old.buckets old.seed r bytes == b then w else pos 0)) (s.cells r there b within)));
}

-- a merge
pub stands_joined : (old other new : CountState) (g h : CountHistory) → Joins old other new → StandsFor old g → StandsFor other h → StandsFor new (Merge g h)
stands_joined old other new g h step s t = record {
  hashes = step.shape.hashes ∙ s.hashes;
  buckets = step.shape.buckets ∙ s.buckets;
  seed = step.shape.seed ∙ s.seed;
  total = step.total ∙ (ap (λ (n : ℕ). n + other.total) s.total ∙ ap (λ (n : ℕ). absolute_weight g + n) t.total);
  cells = λ r lr b lb.
      let there : r < old.hashes = omega (arith, lr, step.shape.hashes) in
      let within : b < old.buckets = omega (arith, lb, step.shape.buckets) in
      let second : cell_at other.rows r b ≡ cell_share old.buckets old.seed h r b =
      subst (λ (d : ℕ). cell_at other.rows r b ≡ cell_share d old.seed h r b) (sym step.same.buckets)
      (subst (λ (seed : ℕ). cell_at other.rows r b ≡ cell_share other.buckets seed h r b) (sym step.same.seed)
      (t.cells r (omega (arith, there, step.same.hashes)) b (omega (arith, within, step.same.buckets)))) in
      subst (λ (d : ℕ). cell_at new.rows r b ≡ cell_share d new.seed (Merge g h) r b) (sym step.shape.buckets)
      (subst (λ (seed : ℕ). cell_at new.rows r b ≡ cell_share old.buckets seed (Merge g h) r b) (sym step.shape.seed)
      (step.cells r there b within ∙ (ap (λ (z : ℤ). z +ℤ cell_at other.rows r b) (s.cells r there b within) ∙ ap (λ (z : ℤ). cell_share old.buckets old.seed g r b +ℤ z) second)));
}

-- halving
pub stands_halved : (old : CountState) (h : CountHistory) → StandsFor old h → StandsFor (halved_state old) (Halve h)
stands_halved old h s = record {
  hashes = s.hashes;
  buckets = s.buckets;
  seed = s.seed;
  total = ap (λ (t : ℕ). t / 2) s.total;
  cells = λ r lr b lb. cell_map halved refl old.rows r b ∙ ap halved (s.cells r lr b lb);
}

-- decay
pub stands_decayed : (old : CountState) (n d : ℕ) (h : CountHistory) → StandsFor old h → StandsFor (decayed_state n d old) (Decay h n d)
stands_decayed old n d h s = record {
  hashes = s.hashes;
  buckets = s.buckets;
  seed = s.seed;
  total = ap (λ (t : ℕ). t * n / d) s.total;
  cells = λ r lr b lb. cell_map (scaled n d) (scaled_zero n d) old.rows r b ∙ ap (scaled n d) (s.cells r lr b lb);
}
