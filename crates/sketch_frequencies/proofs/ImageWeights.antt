-- The weights of an image, by their places.
use Rattle.std.proofs.Common.{◌≡◌, ℕ, zero, suc, ◌+◌, ◌*◌, ◌<◌, ◌≤◌, true, false, List, length, take, drop, get_or, sum, None, Some, refl, ap, ◌∙◌, arith, leb, drop-drop}
use Rattle.std.specs.Prelude.{slice_index}
use Rattle.std.specs.Int.{Width, w64}
use Rattle.std.proofs.lemmas.Bool.{lt-leb, le-leb}
use Rattle.std.proofs.lemmas.List.{take_more, take_all}
use Rattle.std.proofs.lemmas.List.Sums.{sum_by_push, sum_by-take-le}
use Rattle.sketch_base.specs.Checks.{first_failing}
use Rattle.sketch_base.specs.Fields.{le_at, words_in}
use Rattle.sketch_base.specs.declared.fault.Fault.TheVariants.{ErrorExceedsTotal, WeightsExceedTotal}
use Rattle.sketch_frequencies.specs.Image.{weight_checks, active_at, weights_at, total_at, error_at}

pub length-words_in : (n : ℕ) (bytes : List ℕ) → length (words_in n bytes) ≡ n
length-words_in zero bytes = refl
length-words_in (suc n) bytes = ap suc (length-words_in n (drop 8 bytes))

pub length-weights_at : (image : List ℕ) → length (weights_at image) ≡ active_at image
length-weights_at image = length-words_in (active_at image) (drop 32 image)

-- a number behind the first bytes
le_at-drop : (w : Width) (bytes : List ℕ) (m p q : ℕ) → q ≡ m + p → le_at w (drop m bytes) p ≡ le_at w bytes q
unfolding le_at
le_at-drop w bytes m p q h = rw (drop-drop p m bytes, h) refl

-- each word by its place
get_or-words_in : (n k : ℕ) (bytes : List ℕ) → k < n → get_or (words_in n bytes) k 0 ≡ le_at w64 bytes (8 * k)
get_or-words_in zero k bytes lt = absurd (omega (arith, lt))
get_or-words_in (suc n) zero bytes lt = refl
get_or-words_in (suc n) (suc k) bytes lt = get_or-words_in n k (drop 8 bytes) (omega (arith, lt)) ∙ le_at-drop w64 bytes 8 (8 * k) (8 * suc k) (omega arith)

-- each weight by its place
pub weight_is : (image : List ℕ) (k : ℕ) → k < active_at image → slice_index (weights_at image) k ≡ le_at w64 image (32 + 8 * k)
weight_is image k lt = get_or-words_in (active_at image) k (drop 32 image) lt ∙ le_at-drop w64 image 32 (8 * k) (32 + 8 * k) refl

-- one weight more
pub sum_next : (ws : List ℕ) (k : ℕ) → k < length ws → sum (take (k + 1) ws) ≡ sum (take k ws) + get_or ws k 0
sum_next ws k lt = ap sum (take_more ws k 0 lt) ∙ sum_by_push (λ (n : ℕ). n) (take k ws) (get_or ws k 0)

pub sum_take-le : (ws : List ℕ) (k : ℕ) → sum (take k ws) ≤ sum ws
sum_take-le ws k = sum_by-take-le (λ (n : ℕ). n) ws k

-- the weights are not within the total
pub over_total : (image : List ℕ) → total_at image < sum (weights_at image) → first_failing (weight_checks image) ≡ Some WeightsExceedTotal
over_total image over =
    let fails : leb (sum (weights_at image)) (total_at image) ≡ false = lt-leb _ _ over in
    rw fails refl

-- they are, and with the error they are not
pub over_error : (image : List ℕ) → sum (weights_at image) ≤ total_at image → total_at image < sum (weights_at image) + error_at image → first_failing (weight_checks image) ≡ Some ErrorExceedsTotal
over_error image within over =
    let ws = weights_at image in
    let passes : leb (sum ws) (total_at image) ≡ true = le-leb _ _ within in
    let fails : leb (sum ws + error_at image) (total_at image) ≡ false = lt-leb _ _ over in
    rw (passes, fails) refl

-- both are within the total
pub weights_pass : (image : List ℕ) → sum (weights_at image) + error_at image ≤ total_at image → first_failing (weight_checks image) ≡ None
weights_pass image within =
    let ws = weights_at image in
    let passes : leb (sum ws) (total_at image) ≡ true = le-leb _ _ (omega (arith, within)) in
    let both : leb (sum ws + error_at image) (total_at image) ≡ true = le-leb _ _ within in
    rw (passes, both) refl

-- all weights are the first so many
pub sum_whole : (image : List ℕ) (k : ℕ) → active_at image ≤ k → sum (take k (weights_at image)) ≡ sum (weights_at image)
sum_whole image k le = ap sum (take_all k (weights_at image) (omega (arith, length-weights_at image, le)))
