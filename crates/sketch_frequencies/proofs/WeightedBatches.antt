-- Many updates, one after another, each with a weight.
use Rattle.std.proofs.Common.{◌≡◌, ℕ, ◌+◌, ◌^◌, ◌<◌, ◌≤◌, Bool, true, false, List, [], ◌∷◌, ◌++◌, length, take, drop, get_or, refl, sym, ap, ◌∙◌, subst, arith}
use Rattle.std.proofs.lemmas.Bool.{ltb-true}
use Rattle.std.proofs.lemmas.Bool.Decides.{nat_tests}
use Rattle.std.proofs.lemmas.List.{append-nil, take_more, take_all, drop_more, take-append-drop}
use Rattle.std.proofs.lemmas.List.Elements.{filter-append}
use Rattle.std.proofs.lemmas.List.Sums.{sum_by_more, sum_by_more_le}
use Rattle.std.proofs.lemmas.Slice.Zip.{length-zip, get_or-zip}
use Rattle.std.specs.List.{zip}
use Rattle.std.specs.Prelude.{filter, nat_lt, sum}
use Rattle.sketch_frequencies.specs.History.{FrequentHistory}
use Rattle.sketch_frequencies.specs.History.FrequentHistory.{Update}
use Rattle.sketch_frequencies.specs.Stands.{StandsFor, KeepsTailBudget, Extends, ExtendsBudget}
use Rattle.sketch_frequencies.specs.State.{FrequentState}
use Rattle.sketch_frequencies.specs.Steps.{StepsEqual}
use Rattle.sketch_frequencies.specs.WeightedBatches.{all_weighed, StepsEqualWeighed, UpdatesWeighed}
use Rattle.sketch_frequencies.proofs.Cases.{by_test}

-- ---- the pairs of an item and its weight

-- the weight is above 0
abbrev pub has_weight : {I : Type 0} → I × ℕ → Bool
has_weight pair = nat_lt 0 pair.1

-- a weight that is not above 0 is 0
pub zero_from : (n : ℕ) → nat_lt 0 n ≡ false → n ≡ 0
zero_from n none = grind (arith, nat_tests)

-- one more pair
pub weighed_more : {I : Type 0} (xs : List I) (ws : List ℕ) (i : ℕ) (x : I) → length ws ≡ length xs → i < length xs → x ≡ get_or xs i x → take (i + 1) (zip xs ws) ≡ take i (zip xs ws) ++ (x, get_or ws i 0) ∷ []
weighed_more xs ws i x same lt is =
    let there : i < length (zip xs ws) = omega (arith, length-zip xs ws) in
    let other : i < length ws = omega arith in
    take_more (zip xs ws) i (x, 0) there ∙ ap (λ p. take i (zip xs ws) ++ p ∷ []) (get_or-zip xs ws i (x, 0) lt other ∙ ap (λ y. (y, get_or ws i 0)) (sym is))

-- the pairs before one, that one, and those behind it
pub weighed_parts : {I : Type 0} (xs : List I) (ws : List ℕ) (i : ℕ) (x : I) → length ws ≡ length xs → i < length xs → x ≡ get_or xs i x → nat_lt 0 (get_or ws i 0) ≡ true →
    filter has_weight (zip xs ws) ≡ filter has_weight (take i (zip xs ws)) ++ (x, get_or ws i 0) ∷ filter has_weight (drop (i + 1) (zip xs ws))
weighed_parts {I} xs ws i x same lt is some =
    let there : i < length (zip xs ws) = omega (arith, length-zip xs ws) in
    let other : i < length ws = omega arith in
    let test : I × ℕ → Bool = has_weight in
    let behind = drop (i + 1) (zip xs ws) in
    let one : filter test ((x, get_or ws i 0) ∷ behind) ≡ (x, get_or ws i 0) ∷ filter test behind = rw some refl in
    ap (filter test) (sym (take-append-drop i (zip xs ws)) ∙ ap (λ ys. take i (zip xs ws) ++ ys) (drop_more (zip xs ws) i (x, 0) there ∙ ap (λ p. p ∷ behind) (get_or-zip xs ws i (x, 0) lt other ∙ ap (λ y. (y, get_or ws i 0)) (sym is))))
    ∙ filter-append test (take i (zip xs ws)) ((x, get_or ws i 0) ∷ behind)
    ∙ ap (λ ys. filter test (take i (zip xs ws)) ++ ys) one

-- all pairs
pub weighed_all : {I : Type 0} (xs : List I) (ws : List ℕ) (i : ℕ) → length ws ≡ length xs → length xs ≤ i → take i (zip xs ws) ≡ zip xs ws
weighed_all xs ws i same le = take_all i (zip xs ws) (omega (arith, length-zip xs ws))

-- a weight that is not 0 is above it
pub some_from : (w : ℕ) → ¬ (w ≡ 0) → nat_lt 0 w ≡ true
some_from w other = by_test (nat_lt 0 w) (λ b. b ≡ true) (λ _. refl) (λ none. absurd (other (zero_from w none)))

-- ---- the room for all weights

pub one_fits : (ws : List ℕ) (i start now : ℕ) → i < length ws → start + sum ws < 2 ^ 64 → now ≡ start + sum (take i ws) → now + get_or ws i 0 < 2 ^ 64
one_fits ws i start now lt fits so_far =
    let most : sum (take i ws) + get_or ws i 0 ≤ sum ws = sum_by_more_le (λ n. n) ws i 0 lt in
    omega arith

pub total_more : (ws : List ℕ) (i start now after : ℕ) → i < length ws → now ≡ start + sum (take i ws) → after ≡ now + get_or ws i 0 → after ≡ start + sum (take (i + 1) ws)
total_more ws i start now after lt so_far step =
    let more : sum (take (i + 1) ws) ≡ sum (take i ws) + get_or ws i 0 = sum_by_more (λ n. n) ws i 0 lt in
    omega arith

-- ---- the updates

-- one more pair in the history
history_more : {T : Type 0} (h : FrequentHistory T) (ps : List (T × ℕ)) (p : T × ℕ) → all_weighed h (ps ++ p ∷ []) ≡ Update (all_weighed h ps) p.0 p.1
history_more h [] p = refl
history_more h (q ∷ qs) p = history_more (Update h q.0 q.1) qs p

-- one more step
steps_more : {T : Type 0} (eq : T → T → Bool) (old mid new : FrequentState T) (ps : List (T × ℕ)) (p : T × ℕ) → StepsEqualWeighed eq old ps mid → StepsEqual eq mid p.0 p.1 new → StepsEqualWeighed eq old (ps ++ p ∷ []) new
steps_more eq old mid new [] p s t = (new, subst (λ (m : FrequentState _). StepsEqual eq m p.0 p.1 new) s t, refl)
steps_more eq old mid new (q ∷ qs) p s t = (s.0, s.1, steps_more eq s.0 mid new qs p s.2 t)

-- no weight is added yet
pub weights_none : {T : Type 0} (eq : T → T → Bool) (old : FrequentState T) → UpdatesWeighed eq old [] old
weights_none eq old = record { steps = refl; stands = λ h s. s; budget = λ h s k. k }

-- one more is
pub weights_push : {T : Type 0} (eq : T → T → Bool) (old mid new : FrequentState T) (ps : List (T × ℕ)) (p : T × ℕ) → UpdatesWeighed eq old ps mid → StepsEqual eq mid p.0 p.1 new → Extends eq mid new (λ h. Update h p.0 p.1) → ExtendsBudget eq mid new (λ h. Update h p.0 p.1) → UpdatesWeighed eq old (ps ++ p ∷ []) new
weights_push {T} eq old mid new ps p before step stands budget = record {
  steps = steps_more eq old mid new ps p before.steps step;
  stands = λ h s. subst (λ (g : FrequentHistory T). StandsFor eq new g) (sym (history_more h ps p)) (stands (all_weighed h ps) (before.stands h s));
  budget = λ h s k. subst (λ (g : FrequentHistory T). KeepsTailBudget eq new g) (sym (history_more h ps p)) (budget (all_weighed h ps) (before.stands h s) (before.budget h s k));
}

-- a pair behind others is kept if its weight is above 0, and left out if it is 0
pub filter_some : {I : Type 0} (ps : List (I × ℕ)) (p : I × ℕ) → nat_lt 0 p.1 ≡ true → filter has_weight (ps ++ p ∷ []) ≡ filter has_weight ps ++ p ∷ []
filter_some {I} ps p some =
    let one : filter has_weight (p ∷ []) ≡ p ∷ [] = rw some refl in
    filter-append has_weight ps (p ∷ []) ∙ ap (λ ys. filter has_weight ps ++ ys) one

pub filter_none : {I : Type 0} (ps : List (I × ℕ)) (p : I × ℕ) → nat_lt 0 p.1 ≡ false → filter has_weight (ps ++ p ∷ []) ≡ filter has_weight ps
filter_none {I} ps p none =
    let nothing : filter has_weight (p ∷ []) ≡ [] = rw none refl in
    filter-append has_weight ps (p ∷ []) ∙ (ap (λ ys. filter has_weight ps ++ ys) nothing ∙ append-nil (filter has_weight ps))

-- what one more weight adds to the total
pub total_after : {T : Type 0} (mid new : FrequentState T) (w : ℕ) → (w ≡ 0 → new ≡ mid) → (0 < w → new.total ≡ mid.total + w) → new.total ≡ mid.total + w
total_after mid new w same step =
    by_test (nat_lt 0 w) (λ b. new.total ≡ mid.total + w)
    (λ some. step (ltb-true 0 w some))
    (λ none. let z : w ≡ 0 = zero_from w none in ap (λ s. s.total) (same z) ∙ omega arith)
