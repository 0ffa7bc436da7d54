-- Finite sets of numbers by their members.
use Rattle.std.proofs.Common.{◌≡◌, ℕ, ◌+◌, ◌==◌, Bool, true, false, cond, ◌&&◌, ◌||◌, not, refl, sym, ap, ◌∙◌, eqb-true, eq-eqb}
use Rattle.std.specs.Ordering.{nat_cmp}
use Rattle.std.specs.Cmp.{unsigned_tied}
use Rattle.std.proofs.lemmas.Cmp.{nat_cmp_total}
use Rattle.std.specs.FinMap.{nat_cmp-IsAntisymmetric}
use Rattle.std.specs.FinSet as set
use Rattle.sketch_bloom.specs.BitSet.{Numbers}
use Rattle.std.proofs.lemmas.Bool.{and_from, and_parts}
use Rattle.std.proofs.Math.Bool.{or_comm, or_assoc, or_self, or-false}
use Rattle.sketch_bloom.proofs.Bools.{same_tests, or_right, or_swap}

-- sets with the same members are equal
pub same_members : (s t : Numbers) → ((q : ℕ) → set.contains s q ≡ set.contains t q) → s ≡ t
same_members s t h = set.same_set nat_cmp_total nat_cmp-IsAntisymmetric s t h

-- the members after one was inserted
pub contains-insert : (s : Numbers) (k q : ℕ) → set.contains (set.insert s k) q ≡ ((q == k) || set.contains s q)
contains-insert s k q = set.contains-insert nat_cmp_total s k q ∙ ap (λ b. b || set.contains s q) (unsigned_tied q k)

-- the one that was inserted is a member
pub contains-insert_same : (s : Numbers) (k : ℕ) → set.contains (set.insert s k) k ≡ true
contains-insert_same s k = contains-insert s k k ∙ ap (λ b. b || set.contains s k) (eq-eqb k k refl)

-- the members of a union
pub contains-union : (s t : Numbers) (q : ℕ) → set.contains (set.union s t) q ≡ (set.contains s q || set.contains t q)
contains-union = set.contains-union nat_cmp_total

-- the members of an intersection
pub contains-intersection : (s t : Numbers) (q : ℕ) → set.contains (set.intersection s t) q ≡ (set.contains s q && set.contains t q)
contains-intersection = set.contains-intersection nat_cmp_total

-- the members of a difference
pub contains-difference : (s t : Numbers) (q : ℕ) → set.contains (set.difference s t) q ≡ (set.contains s q && not (set.contains t q))
contains-difference = set.contains-difference nat_cmp_total

-- the empty set has no members
pub contains-empty : (q : ℕ) → set.contains (set.empty {R = nat_cmp}) q ≡ false
contains-empty q = set.contains-empty nat_cmp q

-- a union in either order
pub union-commutes : (s t : Numbers) → set.union s t ≡ set.union t s
union-commutes s t = same_members _ _ (λ q. contains-union s t q ∙ or_comm (set.contains s q) (set.contains t q) ∙ sym (contains-union t s q))

-- a union of three
pub union-associates : (s t u : Numbers) → set.union (set.union s t) u ≡ set.union s (set.union t u)
union-associates s t u = same_members _ _ (λ q.
    contains-union (set.union s t) u q
    ∙ ap (λ b. b || set.contains u q) (contains-union s t q)
    ∙ or_assoc (set.contains s q) (set.contains t q) (set.contains u q)
    ∙ ap (λ b. set.contains s q || b) (sym (contains-union t u q))
    ∙ sym (contains-union s (set.union t u) q))

-- a union with itself
pub union-self : (s : Numbers) → set.union s s ≡ s
union-self s = same_members _ _ (λ q. contains-union s s q ∙ or_self _)

-- a union with nothing
pub union-empty : (s : Numbers) → set.union s set.empty ≡ s
union-empty s = same_members _ _ (λ q. contains-union s set.empty q ∙ ap (λ b. set.contains s q || b) (contains-empty q) ∙ or-false _)

-- a number more on the right of a union
pub union-insert : (s t : Numbers) (k : ℕ) → set.union s (set.insert t k) ≡ set.insert (set.union s t) k
union-insert s t k = same_members _ _ (λ q.
    contains-union s (set.insert t k) q
    ∙ ap (λ b. set.contains s q || b) (contains-insert t k q)
    ∙ or_swap (set.contains s q) (q == k) (set.contains t q)
    ∙ ap (λ b. (q == k) || b) (sym (contains-union s t q))
    ∙ sym (contains-insert (set.union s t) k q))

-- a subset has each of its members in the other set
pub member_of_subset : (s t : Numbers) → set.is_subset s t ≡ true → (q : ℕ) → set.contains s q ≡ true → set.contains t q ≡ true
member_of_subset s t = set.is_subset-contains nat_cmp_total s t

-- and where each member is, the set is a part
pub subset_by_members : (s t : Numbers) → ((q : ℕ) → set.contains s q ≡ true → set.contains t q ≡ true) → set.is_subset s t ≡ true
subset_by_members s t = set.contains-is_subset nat_cmp_total s t

-- the empty set is a part of each set
pub is_subset-empty : (t : Numbers) → set.is_subset set.empty t ≡ true
is_subset-empty t = subset_by_members set.empty t (λ q h. absurd (let e = contains-empty q in cc))

-- a set with a number more is a part where that number and the rest are
insert_in : (s t : Numbers) (k q : ℕ) → set.is_subset s t ≡ true → set.contains t k ≡ true → ((q == k) || set.contains s q) ≡ true → set.contains t q ≡ true
insert_in s t k q sub has =
    elim (q == k) as (λ b. (q == k) ≡ b → (b || set.contains s q) ≡ true → set.contains t q ≡ true) [
      | true ↦ λ e _. ap (set.contains t) (eqb-true q k e) ∙ has
      | false ↦ λ _ h. member_of_subset s t sub q h
    ] refl

-- a set with one number more, as a part of another
pub is_subset-insert : (s t : Numbers) (k : ℕ) → set.is_subset (set.insert s k) t ≡ (set.is_subset s t && set.contains t k)
is_subset-insert s t k = same_tests _ _
    (λ h. and_from _ _
    (subset_by_members s t (λ q m. member_of_subset (set.insert s k) t h q (contains-insert s k q ∙ or_right _ _ m)))
    (member_of_subset (set.insert s k) t h k (contains-insert_same s k)))
    (λ h. subset_by_members (set.insert s k) t (λ q m. insert_in s t k q (and_parts _ _ h).0 (and_parts _ _ h).1 (sym (contains-insert s k q) ∙ m)))

-- a part of a set adds nothing to it
pub union_of_subset : (s t : Numbers) → set.is_subset t s ≡ true → set.union s t ≡ s
union_of_subset s t sub = same_members _ _ (λ q. contains-union s t q ∙ absorbed (set.contains s q) (set.contains t q) (member_of_subset t s sub q))
  where
    absorbed : (a b : Bool) → (b ≡ true → a ≡ true) → (a || b) ≡ a
    absorbed true b f = refl
    absorbed false true f = sym (f refl)
    absorbed false false f = refl

-- the size grows by one where the number is new
pub len-insert : (s : Numbers) (k : ℕ) → set.len (set.insert s k) ≡ cond (set.contains s k) (set.len s) (set.len s + 1)
len-insert s k = set.len-insert nat_cmp_total s k
