-- What a filter contains, its union with another contains.
use Rattle.std.proofs.Common.{◌≡◌, ℕ, ◌*◌, Bool, true, false, ◌||◌, List, refl, sym, ap, ◌∙◌}
use Rattle.std.proofs.lemmas.Cmp.{nat_cmp_total}
use Rattle.std.specs.FinSet as set
use Rattle.sketch_bloom.specs.BitSet.{Numbers}
use Rattle.sketch_bloom.specs.Positions.{positions_of}
use Rattle.sketch_bloom.specs.State.{FilterState, IsCompatible, item_positions, contains_item, inserted, united}

pub or_left : (a b : Bool) → a ≡ true → (a || b) ≡ true
or_left true b e = refl
or_left false b e = absurd (cc e)

pub or_right : (a b : Bool) → b ≡ true → (a || b) ≡ true
or_right true b e = refl
or_right false b e = e

subset_left : (p s t : Numbers) → set.is_subset p s ≡ true → set.is_subset p (set.union s t) ≡ true
subset_left p s t e = set.contains-is_subset nat_cmp_total p (set.union s t) (λ q has.
    set.contains-union nat_cmp_total s t q ∙ or_left (set.contains s q) (set.contains t q) (set.is_subset-contains nat_cmp_total p s e q has))

subset_right : (p s t : Numbers) → set.is_subset p t ≡ true → set.is_subset p (set.union s t) ≡ true
subset_right p s t e = set.contains-is_subset nat_cmp_total p (set.union s t) (λ q has.
    set.contains-union nat_cmp_total s t q ∙ or_right (set.contains s q) (set.contains t q) (set.is_subset-contains nat_cmp_total p t e q has))

-- an item that was contained before another was inserted
pub inserted_keeps : (s : FilterState) (bytes key : List ℕ) → contains_item s key ≡ true → contains_item (inserted s bytes) key ≡ true
inserted_keeps s bytes key e = subset_left (item_positions s key) s.set (item_positions s bytes) e

-- an item that the first of two contains
pub united_keeps : (a b : FilterState) (key : List ℕ) → contains_item a key ≡ true → contains_item (united a b) key ≡ true
united_keeps a b key e = subset_left (item_positions a key) a.set b.set e

-- an item has the same positions in compatible filters
same_positions : (a b : FilterState) (key : List ℕ) → IsCompatible a b → item_positions b key ≡ item_positions a key
same_positions a b key c = sym (λ i. positions_of (64 * c.num_words i) (c.num_hashes i) (c.seed i) key)

-- an item that the second of two compatible ones contains
pub united_gains : (a b : FilterState) (key : List ℕ) → IsCompatible a b → contains_item b key ≡ true → contains_item (united a b) key ≡ true
united_gains a b key c e =
    subset_right (item_positions a key) a.set b.set (ap (λ (p : Numbers). set.is_subset p b.set) (sym (same_positions a b key c)) ∙ e)
