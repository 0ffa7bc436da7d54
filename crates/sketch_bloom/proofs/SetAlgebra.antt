-- The laws of set algebra and of equality.
use Rattle.std.proofs.Common.{◌≡◌, ℕ, ◌*◌, true, false, ◌&&◌, ◌||◌, not, List, refl, sym, ap, subst, ◌∙◌, arith}
use Rattle.std.specs.FinSet as set
use Rattle.sketch_base.specs.Xxh64.{xxh64}
use Rattle.sketch_bloom.specs.Positions.{position, positions}
use Rattle.sketch_bloom.specs.State.{FilterState, IsFilterState, IsCompatible, capacity_of, item_positions, contains_item, inserted, united, subtracted}
use Rattle.std.proofs.lemmas.Bool.{and_from, and_parts}
use Rattle.sketch_bloom.proofs.Bools.{or_right}
use Rattle.sketch_bloom.proofs.Sets.{contains-empty, contains-union, contains-difference, union-commutes, union-associates, union-self, member_of_subset, subset_by_members}
use Rattle.sketch_bloom.specs.Equality.{same_states}
use Rattle.sketch_bloom.proofs.Placing.{positions_has}

-- a union in either order
pub union_commutes : (a b : FilterState) → IsCompatible a b → united a b ≡ united b a
union_commutes a b c = same_states (united a b) (united b a) c.num_words c.num_hashes c.seed (union-commutes a.set b.set)

-- a union of three
pub union_associates : (a b c : FilterState) → united (united a b) c ≡ united a (united b c)
union_associates a b c = same_states (united (united a b) c) (united a (united b c)) refl refl refl (union-associates a.set b.set c.set)

-- a union with itself
pub union_is_idempotent : (a : FilterState) → united a a ≡ a
union_is_idempotent a = same_states (united a a) a refl refl refl (union-self a.set)

-- a union contains what the first contains
pub union_keeps : (a b : FilterState) (bytes : List ℕ) → contains_item a bytes ≡ true → contains_item (united a b) bytes ≡ true
union_keeps a b bytes has = subset_by_members (item_positions a bytes) (set.union a.set b.set) (λ q m. contains-union a.set b.set q ∙ ap (λ t. t || set.contains b.set q) (member_of_subset (item_positions a bytes) a.set has q m))

-- and what the second does
pub union_brings : (a b : FilterState) (bytes : List ℕ) → IsCompatible a b → contains_item b bytes ≡ true → contains_item (united a b) bytes ≡ true
union_brings a b bytes c has = subst (λ (s : FilterState). contains_item s bytes ≡ true) (sym (union_commutes a b c)) (union_keeps b a bytes has)

-- what was inserted is contained
pub inserted_is_contained : (a : FilterState) (bytes : List ℕ) → contains_item (inserted a bytes) bytes ≡ true
inserted_is_contained a bytes = subset_by_members (item_positions a bytes) (set.union a.set (item_positions a bytes)) (λ q h. contains-union a.set (item_positions a bytes) q ∙ or_right (set.contains a.set q) (set.contains (item_positions a bytes) q) h)

-- compatible filters have the same positions of an item
pub same_positions : (a b : FilterState) (bytes : List ℕ) → IsCompatible a b → item_positions a bytes ≡ item_positions b bytes
same_positions a b bytes c = λ i. positions (64 * c.num_words i) (c.num_hashes i) (xxh64 bytes (c.seed i)) (xxh64 bytes (xxh64 bytes (c.seed i)))

-- the first position of an item
first_position : FilterState → List ℕ → ℕ
first_position b bytes = position (capacity_of b) (xxh64 bytes b.seed) (xxh64 bytes (xxh64 bytes b.seed)) 1

-- it is one of them, since there is a hash at least
has_first : (b : FilterState) (bytes : List ℕ) → IsFilterState b → set.contains (item_positions b bytes) (first_position b bytes) ≡ true
unfolding first_position
has_first b bytes s = positions_has (capacity_of b) b.num_hashes (xxh64 bytes b.seed) (xxh64 bytes (xxh64 bytes b.seed)) 0 (omega (arith, s.some_hashes))

-- an empty filter contains nothing
pub empty_contains_nothing : (s : FilterState) (bytes : List ℕ) → IsFilterState s → s.set ≡ set.empty → contains_item s bytes ≡ false
empty_contains_nothing s bytes state none =
    elim (contains_item s bytes) as (λ t. contains_item s bytes ≡ t → t ≡ false) [
      | true ↦ λ e.
          let p : ℕ = first_position s bytes in
          let has : set.contains s.set p ≡ true = member_of_subset (item_positions s bytes) s.set e p (has_first s bytes state) in
          let lacks : set.contains s.set p ≡ false = ap (λ t. set.contains t p) none ∙ contains-empty p in
          absurd (cc)
      | false ↦ λ _. refl
    ] refl

-- what the other contains is gone
pub difference_takes_away : (a b : FilterState) (bytes : List ℕ) → IsFilterState b → IsCompatible a b → contains_item b bytes ≡ true → contains_item (subtracted a b) bytes ≡ false
difference_takes_away a b bytes s c has =
    let p : ℕ = first_position b bytes in
    let in_item : set.contains (item_positions a bytes) p ≡ true = ap (λ t. set.contains t p) (same_positions a b bytes c) ∙ has_first b bytes s in
    let in_other : set.contains b.set p ≡ true = member_of_subset (item_positions b bytes) b.set has p (has_first b bytes s) in
    elim (contains_item (subtracted a b) bytes) as (λ t. contains_item (subtracted a b) bytes ≡ t → t ≡ false) [
      | true ↦ λ e.
          let left : set.contains (set.difference a.set b.set) p ≡ true = member_of_subset (item_positions a bytes) (set.difference a.set b.set) e p in_item in
          let parts : (set.contains a.set p && not (set.contains b.set p)) ≡ true = sym (contains-difference a.set b.set p) ∙ left in
          let out : not (set.contains b.set p) ≡ true = (and_parts (set.contains a.set p) (not (set.contains b.set p)) parts).1 in
          let gone : not true ≡ true = sym (ap not in_other) ∙ out in
          absurd (cc)
      | false ↦ λ _. refl
    ] refl

-- what is contained was contained
pub difference_adds_nothing : (a b : FilterState) (bytes : List ℕ) → contains_item (subtracted a b) bytes ≡ true → contains_item a bytes ≡ true
difference_adds_nothing a b bytes has = subset_by_members (item_positions a bytes) a.set (λ q h.
    (and_parts (set.contains a.set q) (not (set.contains b.set q)) (sym (contains-difference a.set b.set q) ∙ member_of_subset (item_positions a bytes) (set.difference a.set b.set) has q h)).0)

-- what shares no position with the other stays
pub difference_leaves : (a b : FilterState) (bytes : List ℕ) → contains_item a bytes ≡ true → ((p : ℕ) → set.contains (item_positions a bytes) p ≡ true → set.contains b.set p ≡ false) → contains_item (subtracted a b) bytes ≡ true
difference_leaves a b bytes has apart = subset_by_members (item_positions a bytes) (set.difference a.set b.set) (λ q h.
    contains-difference a.set b.set q
    ∙ and_from (set.contains a.set q) (not (set.contains b.set q)) (member_of_subset (item_positions a bytes) a.set has q h) (ap not (apart q h)))
