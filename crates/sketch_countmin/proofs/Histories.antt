-- What follows of histories where no weight is below zero, and of those without halving and decay.
use Rattle.std.proofs.Common.{◌≡◌, ℕ, zero, suc, ◌+◌, ◌*◌, ◌/◌, ◌<◌, ◌≤◌, Bool, true, false, cond, List, ℤ, pos, negsuc, ◌+ℤ◌, unsigned_abs, refl, sym, ap, ◌∙◌, subst, arith}
use Rattle.std.specs.Prelude.{◌≤ℤ◌, ◌==◌, ◌&&◌, not, ◌-ℤ◌}
use Rattle.std.specs.Str.{bytes_eq}
use Rattle.std.proofs.Math.Nat.{div-zero}
use Rattle.std.proofs.lemmas.Int.{ints}
use Rattle.std.proofs.lemmas.Nat.{mul-le}
use Rattle.std.proofs.lemmas.Bool.{eq-eqb, false≢true}
use Rattle.std.proofs.lemmas.Slice.Eq.{bytes_eq-Decides}
use Rattle.sketch_countmin.specs.Values.{scaled, halved}
use Rattle.sketch_countmin.specs.Buckets.{bucket_of}
use Rattle.sketch_countmin.specs.State.{CountState, IsMin, IsMinCell, item_cell}
use Rattle.sketch_countmin.specs.History.{CountHistory, value_over, own_value, others_share, cell_share, absolute_weight, IsNonnegative, IsExact, followed_by, of_first}
use Rattle.sketch_countmin.specs.History.CountHistory.{New, Update, Merge, Halve, Decay, Restored}
use Rattle.sketch_countmin.specs.Stands.{StandsFor}
use Rattle.sketch_countmin.proofs.Decays.{div_le}
use Rattle.sketch_countmin.proofs.Estimates.{bucket_below}

-- ---- scaling keeps the order above zero

-- also by a fraction over nothing, which is nothing
div_le_any : (m n d : ℕ) → m ≤ n → m / d ≤ n / d
div_le_any m n zero le = omega (arith, div-zero m, div-zero n)
div_le_any m n (suc d) le = div_le m n (suc d) (omega arith) le

scaled_mono : (n d : ℕ) (x y : ℤ) → pos 0 ≤ℤ x → x ≤ℤ y → scaled n d x ≤ℤ scaled n d y
scaled_mono n d (pos a) (pos b) low h = let le : a * n / d ≤ b * n / d = div_le_any (a * n) (b * n) d (mul-le a n b n (omega (arith, ints)) (omega arith)) in omega (arith, ints, le)
scaled_mono n d (pos a) (negsuc b) low h = absurd (omega (arith, ints))
scaled_mono n d (negsuc a) y low h = absurd (omega (arith, ints))

scaled_low : (n d : ℕ) (x : ℤ) → pos 0 ≤ℤ x → pos 0 ≤ℤ scaled n d x
scaled_low n d (pos a) low = omega (arith, ints)
scaled_low n d (negsuc a) low = absurd (omega (arith, ints))

halved_mono : (x y : ℤ) → pos 0 ≤ℤ x → x ≤ℤ y → halved x ≤ℤ halved y
halved_mono (pos a) (pos b) low h = omega (arith, ints)
halved_mono (pos a) (negsuc b) low h = absurd (omega (arith, ints))
halved_mono (negsuc a) y low h = absurd (omega (arith, ints))

halved_low : (x : ℤ) → pos 0 ≤ℤ x → pos 0 ≤ℤ halved x
halved_low (pos a) low = omega (arith, ints)
halved_low (negsuc a) low = absurd (omega (arith, ints))

-- ---- values

weight_low : (t : Bool) (w : ℤ) → pos 0 ≤ℤ w → pos 0 ≤ℤ cond t w (pos 0)
weight_low true w h = h
weight_low false w h = omega (arith, ints)

weight_mono : (s t : Bool) (w : ℤ) → pos 0 ≤ℤ w → (s ≡ true → t ≡ true) → cond s w (pos 0) ≤ℤ cond t w (pos 0)
weight_mono true true w h i = omega (arith, ints)
weight_mono true false w h i = absurd (false≢true (i refl))
weight_mono false t w h i = weight_low t w h

weight_most : (t : Bool) (w : ℤ) → pos 0 ≤ℤ w → cond t w (pos 0) ≤ℤ pos (unsigned_abs w)
weight_most true w h = omega (arith, ints)
weight_most false w h = omega (arith, ints)

-- no value is below zero
value_low : (h : CountHistory) (f : List ℕ → Bool) → IsNonnegative h → pos 0 ≤ℤ value_over h f
value_low (New m d s) f i = omega (arith, ints)
value_low (Update h bytes w) f i = let a = value_low h f i.0 in let b = weight_low (f bytes) w i.1 in omega (arith, ints, a, b)
value_low (Merge g h) f i = let a = value_low g f i.0 in let b = value_low h f i.1 in omega (arith, ints, a, b)
value_low (Halve h) f i = halved_low (value_over h f) (value_low h f i)
value_low (Decay h n d) f i = scaled_low n d (value_over h f) (value_low h f i)
value_low (Restored h) f i = value_low h f i

-- more byte lists have no smaller value
value_mono : (h : CountHistory) (f k : List ℕ → Bool) → IsNonnegative h → ((bytes : List ℕ) → f bytes ≡ true → k bytes ≡ true) → value_over h f ≤ℤ value_over h k
value_mono (New m d s) f k i more = omega (arith, ints)
value_mono (Update h bytes w) f k i more = let a = value_mono h f k i.0 more in let b = weight_mono (f bytes) (k bytes) w i.1 (more bytes) in omega (arith, ints, a, b)
value_mono (Merge g h) f k i more = let a = value_mono g f k i.0 more in let b = value_mono h f k i.1 more in omega (arith, ints, a, b)
value_mono (Halve h) f k i more = halved_mono (value_over h f) (value_over h k) (value_low h f i) (value_mono h f k i more)
value_mono (Decay h n d) f k i more = scaled_mono n d (value_over h f) (value_over h k) (value_low h f i) (value_mono h f k i more)
value_mono (Restored h) f k i more = value_mono h f k i more

-- no value is above the absolute weight
value_most : (h : CountHistory) (f : List ℕ → Bool) → IsNonnegative h → value_over h f ≤ℤ pos (absolute_weight h)
value_most (New m d s) f i = omega (arith, ints)
value_most (Update h bytes w) f i = let a = value_most h f i.0 in let b = weight_most (f bytes) w i.1 in omega (arith, ints, a, b)
value_most (Merge g h) f i = let a = value_most g f i.0 in let b = value_most h f i.1 in omega (arith, ints, a, b)
value_most (Halve h) f i = halved_mono (value_over h f) (pos (absolute_weight h)) (value_low h f i) (value_most h f i)
value_most (Decay h n d) f i = scaled_mono n d (value_over h f) (pos (absolute_weight h)) (value_low h f i) (value_most h f i)
value_most (Restored h) f i = value_most h f i

-- ---- an estimate

-- the bytes themselves are in their bucket
own_bucket : (d seed r : ℕ) (bytes other : List ℕ) → bytes_eq bytes other ≡ true → (bucket_of d seed r other == bucket_of d seed r bytes) ≡ true
own_bucket d seed r bytes other same = eq-eqb (bucket_of d seed r other) (bucket_of d seed r bytes) (ap (bucket_of d seed r) (sym ((bytes_eq-Decides bytes other).0 same)))

-- where no weight is below zero, the least cell lies between the own value and the total
pub enclosed : (s : CountState) (h : CountHistory) (bytes : List ℕ) (z : ℤ) → 0 < s.buckets → IsMinCell s bytes z → StandsFor s h → IsNonnegative h → (own_value h bytes ≤ℤ z) × (z ≤ℤ pos s.total)
enclosed s h bytes z p least stands i =
    let row = least.reached in
    let r : ℕ = row.0 in
    let b : ℕ = bucket_of s.buckets s.seed r bytes in
    let share : z ≡ cell_share s.buckets s.seed h r b = row.2 ∙ stands.cells r row.1 b (bucket_below s.buckets s.seed r bytes p) in
    let low : own_value h bytes ≤ℤ cell_share s.buckets s.seed h r b = value_mono h (bytes_eq bytes) (λ other. bucket_of s.buckets s.seed r other == b) i (own_bucket s.buckets s.seed r bytes) in
    let high : cell_share s.buckets s.seed h r b ≤ℤ pos (absolute_weight h) = value_most h (λ other. bucket_of s.buckets s.seed r other == b) i in
    (subst (λ (w : ℤ). own_value h bytes ≤ℤ w) (sym share) low, subst (λ (t : ℕ). z ≤ℤ pos t) (sym stands.total) (subst (λ (w : ℤ). w ≤ℤ pos (absolute_weight h)) (sym share) high))

-- ---- the own value and that of the others

-- tests that answer alike have one value
value_same : (h : CountHistory) (f k : List ℕ → Bool) → ((bytes : List ℕ) → f bytes ≡ k bytes) → value_over h f ≡ value_over h k
value_same (New m d s) f k e = refl
value_same (Update h bytes w) f k e = ap (λ (z : ℤ). z +ℤ cond (f bytes) w (pos 0)) (value_same h f k e) ∙ ap (λ (t : Bool). value_over h k +ℤ cond t w (pos 0)) (e bytes)
value_same (Merge g h) f k e = ap (λ (z : ℤ). z +ℤ value_over h f) (value_same g f k e) ∙ ap (λ (z : ℤ). value_over g k +ℤ z) (value_same h f k e)
value_same (Halve h) f k e = ap halved (value_same h f k e)
value_same (Decay h n d) f k e = ap (scaled n d) (value_same h f k e)
value_same (Restored h) f k e = value_same h f k e

-- a weight goes to one of two parts
weight_split : (s t : Bool) (w : ℤ) → cond s w (pos 0) ≡ cond (s && t) w (pos 0) +ℤ cond (s && not t) w (pos 0)
weight_split true true w = omega (arith, ints)
weight_split true false w = omega (arith, ints)
weight_split false t w = omega (arith, ints)

-- and so does a value, where nothing was rounded
value_split : (h : CountHistory) (f k : List ℕ → Bool) → IsExact h → value_over h f ≡ value_over h (λ bytes. f bytes && k bytes) +ℤ value_over h (λ bytes. f bytes && not (k bytes))
value_split (New m d s) f k i = omega (arith, ints)
value_split (Update h bytes w) f k i = let a = value_split h f k i in let b = weight_split (f bytes) (k bytes) w in omega (arith, ints, a, b)
value_split (Merge g h) f k i = let a = value_split g f k i.0 in let b = value_split h f k i.1 in omega (arith, ints, a, b)
value_split (Restored h) f k i = value_split h f k i
value_split (Halve h) f k i = absurd i
value_split (Decay h n d) f k i = absurd i

-- a test that follows from another adds nothing to it
and_follows : (s t : Bool) → (t ≡ true → s ≡ true) → (s && t) ≡ t
and_follows true t h = refl
and_follows false true h = absurd (false≢true (h refl))
and_follows false false h = refl

-- the share of the bytes' own cell
own_share : (d seed : ℕ) (h : CountHistory) (bytes : List ℕ) (r : ℕ) → IsExact h → cell_share d seed h r (bucket_of d seed r bytes) ≡ own_value h bytes +ℤ others_share d seed h bytes r
own_share d seed h bytes r i =
    let inside : List ℕ → Bool = λ other. bucket_of d seed r other == bucket_of d seed r bytes in
    value_split h inside (bytes_eq bytes) i
    ∙ ap (λ (z : ℤ). z +ℤ others_share d seed h bytes r)
    (value_same h (λ other. inside other && bytes_eq bytes other) (bytes_eq bytes) (λ other. and_follows (inside other) (bytes_eq bytes other) (own_bucket d seed r bytes other)))

-- where nothing was rounded, the least cell is above the own value by the least share of the others
pub raised_by_others : (s : CountState) (h : CountHistory) (bytes : List ℕ) (z : ℤ) → 0 < s.buckets → IsMinCell s bytes z → StandsFor s h → IsExact h
    → IsMin s.hashes (others_share s.buckets s.seed h bytes) (z -ℤ own_value h bytes)
raised_by_others s h bytes z p least stands i = record {
  below = λ r lr. let low = least.below r lr in let share = cell r lr in omega (arith, ints, low, share);
  reached = let row = least.reached in let share = cell row.0 row.1 in (row.0, row.1, omega (arith, ints, row.2, share));
}
  where
    cell : (r : ℕ) → r < s.hashes → item_cell s bytes r ≡ own_value h bytes +ℤ others_share s.buckets s.seed h bytes r
    cell r lr = stands.cells r lr (bucket_of s.buckets s.seed r bytes) (bucket_below s.buckets s.seed r bytes p) ∙ own_share s.buckets s.seed h bytes r i

-- ---- one stream followed by another

value_followed : (g h : CountHistory) (f : List ℕ → Bool) → IsExact h → value_over (followed_by g h) f ≡ value_over g f +ℤ value_over h f
value_followed g (New m d s) f i = omega (arith, ints)
value_followed g (Update h bytes w) f i = let a = value_followed g h f i in omega (arith, ints, a)
value_followed g (Merge h k) f i = let a = value_followed g h f i.0 in let b = value_followed (followed_by g h) k f i.1 in omega (arith, ints, a, b)
value_followed g (Restored h) f i = value_followed g h f i
value_followed g (Halve h) f i = absurd i
value_followed g (Decay h n d) f i = absurd i

weight_followed : (g h : CountHistory) → IsExact h → absolute_weight (followed_by g h) ≡ absolute_weight g + absolute_weight h
weight_followed g (New m d s) i = omega arith
weight_followed g (Update h bytes w) i = let a = weight_followed g h i in omega (arith, a)
weight_followed g (Merge h k) i = let a = weight_followed g h i.0 in let b = weight_followed (followed_by g h) k i.1 in omega (arith, a, b)
weight_followed g (Restored h) i = weight_followed g h i
weight_followed g (Halve h) i = absurd i
weight_followed g (Decay h n d) i = absurd i

first_followed : (f : ℕ → ℕ → ℕ → ℕ) (g h : CountHistory) → of_first f (followed_by g h) ≡ of_first f g
first_followed f g (New m d s) = refl
first_followed f g (Update h bytes w) = first_followed f g h
first_followed f g (Merge h k) = first_followed f (followed_by g h) k ∙ first_followed f g h
first_followed f g (Halve h) = first_followed f g h
first_followed f g (Decay h n d) = first_followed f g h
first_followed f g (Restored h) = first_followed f g h

-- what stands for a merge stands for one history followed by the other
pub stands_followed : (s : CountState) (g h : CountHistory) → StandsFor s (Merge g h) → IsExact h → StandsFor s (followed_by g h)
stands_followed s g h stands i = record {
  hashes = stands.hashes ∙ sym (first_followed (λ hashes buckets seed. hashes) g h);
  buckets = stands.buckets ∙ sym (first_followed (λ hashes buckets seed. buckets) g h);
  seed = stands.seed ∙ sym (first_followed (λ hashes buckets seed. seed) g h);
  total = stands.total ∙ sym (weight_followed g h i);
  cells = λ r lr b lb. stands.cells r lr b lb ∙ sym (value_followed g h (λ bytes. bucket_of s.buckets s.seed r bytes == b) i);
}
