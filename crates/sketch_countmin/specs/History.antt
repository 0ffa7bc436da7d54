-- The history of a Count-Min sketch, and the values that it gives to items and cells.
use Rattle.std.specs.Prelude.{ℕ, ◌+◌, ◌*◌, ◌/◌, ◌==◌, ◌&&◌, not, Bool, if◌then◌else◌, List, [], ◌∷◌, fold, ℤ, pos, ◌+ℤ◌, ◌≤ℤ◌, unsigned_abs}
use Rattle.std.specs.Str.{bytes_eq}
use Rattle.sketch_countmin.specs.Values.{scaled, halved}
use Rattle.sketch_countmin.specs.Buckets.{bucket_of}

-- the history of a sketch; an item is given by the bytes that its Hash feeds
pub data CountHistory : Type 0 where
  New : (hashes buckets seed : ℕ) → CountHistory
  Update : CountHistory → (bytes : List ℕ) → (weight : ℤ) → CountHistory
  Merge : CountHistory → CountHistory → CountHistory
  Halve : CountHistory → CountHistory
  Decay : CountHistory → (numerator denominator : ℕ) → CountHistory
  Restored : CountHistory → CountHistory

-- each of these byte lists counted with weight 1, one after another
abbrev pub all_updated : CountHistory → List (List ℕ) → CountHistory
all_updated h [] = h
all_updated h (bytes ∷ rest) = all_updated (Update h bytes (pos 1)) rest

-- each byte list counted with its weight, one after another
abbrev pub each_updated : CountHistory → List (List ℕ × ℤ) → CountHistory
each_updated h [] = h
each_updated h (pair ∷ rest) = each_updated (Update h pair.0 pair.1) rest

-- others merged into the first, one after another
abbrev pub all_merged : CountHistory → List CountHistory → CountHistory
all_merged h others = fold Merge h others

-- the sum of the weights of the byte lists that pass a test, halved and decayed as the cells were
abbrev pub value_over : CountHistory → (List ℕ → Bool) → ℤ
value_over (New hashes buckets seed) f = pos 0
value_over (Update h bytes weight) f = value_over h f +ℤ (if f bytes then weight else pos 0)
value_over (Merge g h) f = value_over g f +ℤ value_over h f
value_over (Halve h) f = halved (value_over h f)
value_over (Decay h n d) f = scaled n d (value_over h f)
value_over (Restored h) f = value_over h f

-- the own share of an item: the value over its bytes alone
abbrev pub own_value : CountHistory → List ℕ → ℤ
own_value h bytes = value_over h (bytes_eq bytes)

-- the value over all byte lists whose bucket in the row r is b
abbrev pub cell_share : ℕ → ℕ → CountHistory → ℕ → ℕ → ℤ
cell_share buckets seed h r b = value_over h (λ bytes. bucket_of buckets seed r bytes == b)

-- the value over all other byte lists that have the same bucket in row r
abbrev pub others_share : ℕ → ℕ → CountHistory → List ℕ → ℕ → ℤ
others_share buckets seed h bytes r =
    value_over h (λ other.
    (bucket_of buckets seed r other == bucket_of buckets seed r bytes) && not (bytes_eq bytes other))

-- the sum of all weights by their absolute values, halved and decayed as the cells were
abbrev pub absolute_weight : CountHistory → ℕ
absolute_weight (New hashes buckets seed) = 0
absolute_weight (Update h bytes weight) = absolute_weight h + unsigned_abs weight
absolute_weight (Merge g h) = absolute_weight g + absolute_weight h
absolute_weight (Halve h) = absolute_weight h / 2
absolute_weight (Decay h n d) = absolute_weight h * n / d
absolute_weight (Restored h) = absolute_weight h

-- a function of the shape and the seed of the first sketch; a merge has those of its receiver
abbrev pub of_first : (ℕ → ℕ → ℕ → ℕ) → CountHistory → ℕ
of_first f (New hashes buckets seed) = f hashes buckets seed
of_first f (Update h bytes weight) = of_first f h
of_first f (Merge g h) = of_first f g
of_first f (Halve h) = of_first f h
of_first f (Decay h n d) = of_first f h
of_first f (Restored h) = of_first f h

-- the number of hashes, the number of buckets, and the seed
abbrev pub hashes_of : CountHistory → ℕ
hashes_of h = of_first (λ hashes buckets seed. hashes) h

abbrev pub buckets_of : CountHistory → ℕ
buckets_of h = of_first (λ hashes buckets seed. buckets) h

abbrev pub seed_of : CountHistory → ℕ
seed_of h = of_first (λ hashes buckets seed. seed) h

-- no weight is negative
abbrev pub IsNonnegative : CountHistory → Type 0
IsNonnegative (New hashes buckets seed) = Unit {0}
IsNonnegative (Update h bytes weight) = IsNonnegative h × (pos 0 ≤ℤ weight)
IsNonnegative (Merge g h) = IsNonnegative g × IsNonnegative h
IsNonnegative (Halve h) = IsNonnegative h
IsNonnegative (Decay h n d) = IsNonnegative h
IsNonnegative (Restored h) = IsNonnegative h

-- nothing was halved or decayed
abbrev pub IsExact : CountHistory → Type 0
IsExact (New hashes buckets seed) = Unit {0}
IsExact (Update h bytes weight) = IsExact h
IsExact (Merge g h) = IsExact g × IsExact h
IsExact (Halve h) = ⊥
IsExact (Decay h n d) = ⊥
IsExact (Restored h) = IsExact h

-- one history, then all steps of another after its beginning
abbrev pub followed_by : CountHistory → CountHistory → CountHistory
followed_by g (New hashes buckets seed) = g
followed_by g (Update h bytes weight) = Update (followed_by g h) bytes weight
followed_by g (Merge h k) = followed_by (followed_by g h) k
followed_by g (Halve h) = Halve (followed_by g h)
followed_by g (Decay h n d) = Decay (followed_by g h) n d
followed_by g (Restored h) = followed_by g h
