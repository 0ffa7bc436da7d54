-- Equality of filters: the test holds exactly if shapes, seeds and sets are equal, so it is an equivalence.
use Rattle.std.proofs.Common.{◌≡◌, true, refl, sym, ap, subst, ◌∙◌}
use Rattle.std.proofs.lemmas.Bool.{and_from, and_parts}
use Rattle.std.proofs.lemmas.Bool.Decides.{Decides-eqb, Decides-and, same_from_decides}
use Rattle.std.proofs.lemmas.Cmp.{nat_cmp_total}
use Rattle.std.specs.Bool.{Decides}
use Rattle.std.specs.Cmp.{IsEquivalence, decided}
use Rattle.std.specs.FinMap.{nat_cmp-IsAntisymmetric}
use Rattle.std.specs.FinSet as set
use Rattle.sketch_bloom.specs.BitSet.{Numbers, same_set}
use Rattle.sketch_bloom.specs.State.{FilterState, same_filter}

-- states with equal fields are equal
pub same_states : (a b : FilterState)
    → a.num_words ≡ b.num_words → a.num_hashes ≡ b.num_hashes → a.seed ≡ b.seed → a.set ≡ b.set → a ≡ b
same_states a b w h s t = λ i. record { num_words = w i; num_hashes = h i; seed = s i; set = t i }

-- two sets that are subsets of each other are equal
same_subsets : (s t : Numbers) → set.is_subset s t ≡ true → set.is_subset t s ≡ true → s ≡ t
same_subsets s t f g = set.same_set nat_cmp_total nat_cmp-IsAntisymmetric s t (λ q.
    same_from_decides (set.contains s q) (set.contains t q)
    ((λ h. h), (λ h. h))
    (set.is_subset-contains nat_cmp_total t s g q, set.is_subset-contains nat_cmp_total s t f q))

-- a set is a subset of itself
is_subset-self : (s : Numbers) → set.is_subset s s ≡ true
is_subset-self s = set.contains-is_subset nat_cmp_total s s (λ q h. h)

-- the test decides equality of sets
sets_decide : (s t : Numbers) → Decides (same_set s t) (s ≡ t)
sets_decide s t = (
  (λ e. let both = and_parts (set.is_subset s t) (set.is_subset t s) e in same_subsets s t both.0 both.1),
  (λ e. ap (same_set s) (sym e) ∙ and_from _ _ (is_subset-self s) (is_subset-self s)),
)

-- the test decides equality of the parts
parts_decide : (a b : FilterState)
    → Decides (same_filter a b)
    ((a.num_words ≡ b.num_words) × ((a.num_hashes ≡ b.num_hashes) × ((a.seed ≡ b.seed) × (a.set ≡ b.set))))
parts_decide a b =
    Decides-and _ _ (Decides-eqb a.num_words b.num_words)
    (Decides-and _ _ (Decides-eqb a.num_hashes b.num_hashes)
    (Decides-and _ _ (Decides-eqb a.seed b.seed) (sets_decide a.set b.set)))

-- the test is true exactly if the filters are equal
pub same_filter-Decides : (a b : FilterState) → Decides (same_filter a b) (a ≡ b)
same_filter-Decides a b =
    let parts = parts_decide a b in
    let itself = parts_decide a a in
    (λ e. let p = parts.0 e in same_states a b p.0 p.1.0 p.1.1.0 p.1.1.1, λ e. subst (λ (t : FilterState). same_filter a t ≡ true) e (itself.1 (refl, (refl, (refl, refl)))))

-- so equality is an equivalence
pub same_filter_equivalence : IsEquivalence same_filter
same_filter_equivalence = decided same_filter same_filter-Decides
