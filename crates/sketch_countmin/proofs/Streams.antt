-- What came together in a sketch, stream by stream.
use Rattle.std.proofs.Common.{◌≡◌, ℕ, Bool, cond, List, [], ◌∷◌, ◌++◌, ℤ, pos, ◌+ℤ◌, refl, sym, ◌∙◌, ap}
use Rattle.std.proofs.Math.IntN.{+ℤ_assoc, +ℤ_comm, +ℤ_idl, +ℤ_idr}
use Rattle.sketch_countmin.specs.History.{CountHistory, value_over}
use Rattle.sketch_countmin.specs.History.CountHistory.{New, Update, Merge, Halve, Decay, Restored}
use Rattle.sketch_countmin.specs.Stands.{StandsFor}
use Rattle.sketch_countmin.specs.State.{CountState}
use Rattle.sketch_countmin.specs.Streams.{own_stream, other_streams, streams_of, signed_sum_by, CellsAreSharesOfStreams}

signed_sum_by-append : {X : Type 0} (f : X → ℤ) (xs ys : List X) → signed_sum_by f (xs ++ ys) ≡ signed_sum_by f xs +ℤ signed_sum_by f ys
signed_sum_by-append f [] ys = sym (+ℤ_idl (signed_sum_by f ys))
signed_sum_by-append f (x ∷ xs) ys = ap (λ n. f x +ℤ n) (signed_sum_by-append f xs ys) ∙ sym (+ℤ_assoc (f x) (signed_sum_by f xs) (signed_sum_by f ys))

-- what is added to the first of two numbers is added to their sum
added : (all own others more : ℤ) → all ≡ own +ℤ others → all +ℤ more ≡ (own +ℤ more) +ℤ others
added all own others more e =
    ap (λ n. n +ℤ more) e ∙ +ℤ_assoc own others more ∙ ap (λ n. own +ℤ n) (+ℤ_comm others more) ∙ sym (+ℤ_assoc own more others)

-- the value over some byte lists is the sum of those of the streams
value_over-streams : (h : CountHistory) (f : List ℕ → Bool) → value_over h f ≡ signed_sum_by (λ g. value_over g f) (streams_of h)
value_over-streams (Merge g h) f =
    ap (λ n. n +ℤ value_over h f) (value_over-streams g f) ∙ ap (λ n. signed_sum_by (λ k. value_over k f) (streams_of g) +ℤ n) (value_over-streams h f)
    ∙ sym (signed_sum_by-append (λ k. value_over k f) (streams_of g) (streams_of h))
value_over-streams (Restored h) f = value_over-streams h f
value_over-streams (New a b c) f = sym (+ℤ_idr (value_over (New a b c) f))
value_over-streams (Update h bytes weight) f =
    added (value_over h f) (value_over (own_stream h) f) (signed_sum_by (λ g. value_over g f) (other_streams h)) (cond (f bytes) weight (pos 0)) (value_over-streams h f)
value_over-streams (Halve h) f = sym (+ℤ_idr (value_over (Halve h) f))
value_over-streams (Decay h n d) f = sym (+ℤ_idr (value_over (Decay h n d) f))

-- so is each cell
pub streams_cells : (s : CountState) (h : CountHistory) → StandsFor s h → CellsAreSharesOfStreams s h
streams_cells s h stands r below b within = stands.cells r below b within ∙ value_over-streams h _

-- a worked example: a sketch that was merged twice
merged_twice : (g h : CountHistory) → streams_of (Merge (Merge g h) h) ≡ streams_of g ++ streams_of h ++ streams_of h
merged_twice g h = refl
