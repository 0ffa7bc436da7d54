-- What a filter has of its parts.
use Rattle.std.proofs.Common.{◌≡◌, ℕ, ◌*◌, true, ◌||◌, List, [], ◌∷◌, ◌++◌, refl, sym, ◌∙◌, ap, subst}
use Rattle.std.specs.FinSet as set
use Rattle.std.specs.List.{All}
use Rattle.std.proofs.lemmas.List.Elements.{All-append, All-cons, All-contains, All-nil, All-weaker}
use Rattle.sketch_bloom.specs.BitSet.{Numbers}
use Rattle.sketch_bloom.specs.History.{BloomHistory, denoted_set, words_of, hashes_of, seed_of}
use Rattle.sketch_bloom.specs.History.BloomHistory.{New, Insert, Union, Intersection, Difference, Reset, Restored}
use Rattle.sketch_bloom.specs.Parts.{parts_of, PartsAreContained}
use Rattle.sketch_bloom.specs.Positions.{positions_of}
use Rattle.sketch_bloom.specs.State.{item_positions}
use Rattle.sketch_bloom.proofs.Bools.{or_right}
use Rattle.sketch_bloom.proofs.SetAlgebra.{same_positions}
use Rattle.sketch_bloom.proofs.Sets.{contains-union, member_of_subset, subset_by_members}

-- the set has each position of the history's set
abbrev pub HasAllOf : Numbers → BloomHistory → Type 0
HasAllOf s g = (p : ℕ) → set.contains (denoted_set g) p ≡ true → set.contains s p ≡ true

-- what a set has, its union with another has
union_left : (s t : Numbers) (g : BloomHistory) → HasAllOf s g → HasAllOf (set.union s t) g
union_left s t g has p e = contains-union s t p ∙ ap (λ b. b || set.contains t p) (has p e)

union_right : (s t : Numbers) (g : BloomHistory) → HasAllOf t g → HasAllOf (set.union s t) g
union_right s t g has p e = contains-union s t p ∙ or_right (set.contains s p) (set.contains t p) (has p e)

-- a filter's set has each position of its parts
all_parts : (h : BloomHistory) → All (HasAllOf (denoted_set h)) (parts_of h)
all_parts (Union a b) =
    let s = denoted_set a in
    let t = denoted_set b in
    All-cons (HasAllOf (set.union s t)) (Union a b) (parts_of a ++ parts_of b) (λ p e. e)
    (All-append (HasAllOf (set.union s t)) (parts_of a) (parts_of b)
    (All-weaker (HasAllOf s) (HasAllOf (set.union s t)) (union_left s t) (parts_of a) (all_parts a))
    (All-weaker (HasAllOf t) (HasAllOf (set.union s t)) (union_right s t) (parts_of b) (all_parts b)))
all_parts (Insert h bytes) =
    let s = denoted_set h in
    let t = positions_of (64 * words_of h) (hashes_of h) (seed_of h) bytes in
    All-cons (HasAllOf (set.union s t)) (Insert h bytes) (parts_of h) (λ p e. e)
    (All-weaker (HasAllOf s) (HasAllOf (set.union s t)) (union_left s t) (parts_of h) (all_parts h))
all_parts (Restored h) = All-cons (HasAllOf (denoted_set h)) (Restored h) (parts_of h) (λ p e. e) (all_parts h)
all_parts (New n k seed) = All-cons (HasAllOf set.empty) (New n k seed) [] (λ p e. e) (All-nil (HasAllOf set.empty))
all_parts (Intersection a b) = All-cons (HasAllOf (denoted_set (Intersection a b))) (Intersection a b) [] (λ p e. e) (All-nil (HasAllOf (denoted_set (Intersection a b))))
all_parts (Difference a b) = All-cons (HasAllOf (denoted_set (Difference a b))) (Difference a b) [] (λ p e. e) (All-nil (HasAllOf (denoted_set (Difference a b))))
all_parts (Reset h) = All-cons (HasAllOf set.empty) (Reset h) [] (λ p e. e) (All-nil (HasAllOf set.empty))

-- a filter contains what a part of it contains
pub parts_are_contained : PartsAreContained
parts_are_contained s part h g all own is alike bytes has =
    subset_by_members (item_positions s bytes) s.set (λ p e.
    subst (λ (t : Numbers). set.contains t p ≡ true) (sym all.set)
    (All-contains (HasAllOf (denoted_set h)) (parts_of h) g (all_parts h) is p
    (subst (λ (t : Numbers). set.contains t p ≡ true) own.set
    (member_of_subset (item_positions part bytes) part.set has p
    (subst (λ (t : Numbers). set.contains t p ≡ true) (same_positions s part bytes alike) e)))))

-- a worked example: an insertion after a union
inserted_after : (a b : BloomHistory) (bytes : List ℕ) → parts_of (Insert (Union a b) bytes) ≡ Insert (Union a b) bytes ∷ Union a b ∷ parts_of a ++ parts_of b
inserted_after a b bytes = refl
