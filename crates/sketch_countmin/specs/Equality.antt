-- Equality of two sketches: by shape, seed, total and cells.
use lib.Pointwise.{pointwise}
use Rattle.std.proofs.Common.{◌≡◌, ◌&&◌, Bool, true, refl, subst}
use Rattle.std.specs.Prelude.{◌==◌}
use Rattle.std.specs.Bool.{Decides}
use Rattle.std.specs.Cmp.{IsEquivalence, IsPartialEquivalence, decided, partial_equiv_from_equiv, signed_Decides}
use Rattle.std.specs.Cmp.Lexicographic.{pointwise_decides}
use Rattle.std.specs.Ordering.{int_eq}
use Rattle.std.proofs.lemmas.Bool.Decides.{Decides-eqb, Decides-and}
use Rattle.sketch_countmin.specs.State.{CountState}

-- whether two sketches are equal
abbrev pub same_state : CountState → CountState → Bool
same_state s t =
    s.hashes == t.hashes
    && (s.buckets == t.buckets
    && (s.seed == t.seed && (s.total == t.total && pointwise (pointwise int_eq) s.rows t.rows)))

-- sketches with equal parts are equal
pub same_parts : (s t : CountState)
    → s.hashes ≡ t.hashes → s.buckets ≡ t.buckets → s.seed ≡ t.seed → s.total ≡ t.total → s.rows ≡ t.rows → s ≡ t
same_parts s t a b c d e =
    λ i. record { hashes = a i; buckets = b i; seed = c i; total = d i; rows = e i }

-- the test decides equality of the parts
parts_decide : (s t : CountState)
    → Decides (same_state s t)
    ((s.hashes ≡ t.hashes)
    × ((s.buckets ≡ t.buckets) × ((s.seed ≡ t.seed) × ((s.total ≡ t.total) × (s.rows ≡ t.rows)))))
parts_decide s t =
    Decides-and _ _ (Decides-eqb s.hashes t.hashes)
    (Decides-and _ _ (Decides-eqb s.buckets t.buckets)
    (Decides-and _ _ (Decides-eqb s.seed t.seed)
    (Decides-and _ _ (Decides-eqb s.total t.total)
    (pointwise_decides (pointwise_decides signed_Decides) s.rows t.rows))))

-- the test is true exactly if the sketches are equal
pub same_state-Decides : (s t : CountState) → Decides (same_state s t) (s ≡ t)
same_state-Decides s t =
    let parts = parts_decide s t in
    let itself = parts_decide s s in
    (λ e. let p = parts.0 e in same_parts s t p.0 p.1.0 p.1.1.0 p.1.1.1.0 p.1.1.1.1, λ e. subst (λ (u : CountState). same_state s u ≡ true) e (itself.1 (refl, (refl, (refl, (refl, refl))))))

-- so equality is an equivalence
pub same_state_equivalence : IsEquivalence same_state
same_state_equivalence = decided same_state same_state-Decides

pub same_state_partial : IsPartialEquivalence same_state
same_state_partial = partial_equiv_from_equiv same_state_equivalence
