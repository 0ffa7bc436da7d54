-- The history of a frequent-items sketch: the calls that produced it.
use Rattle.std.specs.Prelude.{◌≡◌, ℕ, ◌+◌, ◌/◌, min, Bool, cond, List}
use Rattle.std.specs.List.{list_any}
use Rattle.sketch_frequencies.specs.State.{max_sample_size}

-- A history is a new sketch of a maximum size and a sample size, or a history and a step. A step adds a weight above 0 at an
-- item, merges another sketch in, resets the sketch, or restores it from its image.
pub data FrequentHistory (T : Type 0) : Type 0 where
  New : ℕ → ℕ → FrequentHistory T
  Update : FrequentHistory T → T → ℕ → FrequentHistory T
  Merge : FrequentHistory T → FrequentHistory T → FrequentHistory T
  Reset : FrequentHistory T → FrequentHistory T
  Restored : FrequentHistory T → FrequentHistory T

module _ {T : Type 0} (eq : T → T → Bool) where
  -- the true weight of an item: the weights added at items equal to it
  abbrev pub true_weight : FrequentHistory T → T → ℕ
  true_weight (New m n) y = 0
  true_weight (Update h x w) y = true_weight h y + cond (eq x y) w 0
  true_weight (Merge h g) y = true_weight h y + true_weight g y
  true_weight (Reset h) y = 0
  true_weight (Restored h) y = true_weight h y

  -- the weight of the items that are equal to none of the set
  abbrev pub weight_outside : List T → FrequentHistory T → ℕ
  weight_outside set (New m n) = 0
  weight_outside set (Update h x w) = weight_outside set h + cond (list_any (eq x) set) 0 w
  weight_outside set (Merge h g) = weight_outside set h + weight_outside set g
  weight_outside set (Reset h) = 0
  weight_outside set (Restored h) = weight_outside set h

module _ {T : Type 0} where
  -- the total weight of all items
  abbrev pub total_weight : FrequentHistory T → ℕ
  total_weight (New m n) = 0
  total_weight (Update h x w) = total_weight h + w
  total_weight (Merge h g) = total_weight h + total_weight g
  total_weight (Reset h) = 0
  total_weight (Restored h) = total_weight h

  -- the sketch's own maximum table size
  abbrev pub own_size : FrequentHistory T → ℕ
  own_size (New m n) = m
  own_size (Update h x w) = own_size h
  own_size (Merge h g) = own_size h
  own_size (Reset h) = own_size h
  own_size (Restored h) = own_size h

  -- the smallest maximum table size of the sketches that took part since the last reset
  abbrev pub min_size : FrequentHistory T → ℕ
  min_size (New m n) = m
  min_size (Update h x w) = min_size h
  min_size (Merge h g) = min (min_size h) (min_size g)
  min_size (Reset h) = own_size h
  min_size (Restored h) = min_size h

  -- the sketch's own sample size; an image does not contain it, so a restored sketch has the one that `new` chooses for its
  -- maximum size
  abbrev pub own_sample : FrequentHistory T → ℕ
  own_sample (New m n) = n
  own_sample (Update h x w) = own_sample h
  own_sample (Merge h g) = own_sample h
  own_sample (Reset h) = own_sample h
  own_sample (Restored h) = max_sample_size (own_size h)

  -- the smallest sample size of the sketches that took part since the last reset
  abbrev pub min_sample : FrequentHistory T → ℕ
  min_sample (New m n) = n
  min_sample (Update h x w) = min_sample h
  min_sample (Merge h g) = min (min_sample h) (min_sample g)
  min_sample (Reset h) = own_sample h
  min_sample (Restored h) = min_sample h

  -- how many items the tail budget may set aside: half of the smallest sample size
  abbrev pub budget_size : FrequentHistory T → ℕ
  budget_size h = min_sample h / 2

  -- each new sketch had the sample size that `new` chooses
  abbrev pub HasUsualSamples : FrequentHistory T → Type 0
  HasUsualSamples (New m n) = n ≡ max_sample_size m
  HasUsualSamples (Update h x w) = HasUsualSamples h
  HasUsualSamples (Merge h g) = HasUsualSamples h × HasUsualSamples g
  HasUsualSamples (Reset h) = HasUsualSamples h
  HasUsualSamples (Restored h) = HasUsualSamples h
