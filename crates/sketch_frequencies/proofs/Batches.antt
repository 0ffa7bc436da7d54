-- Many updates, one after another, and many estimates.
use Rattle.std.proofs.Common.{◌≡◌, Bool, List, [], ◌∷◌, ◌++◌, map, refl, sym, subst}
use Rattle.std.specs.List.{AllZip}
use Rattle.std.specs.Prelude.{Err, IsErrOf}
use Rattle.sketch_frequencies.specs.Batches.{all_updated, StepsEqualAlong, UpdatesAll}
use Rattle.sketch_frequencies.specs.History.{FrequentHistory}
use Rattle.sketch_frequencies.specs.History.FrequentHistory.{Update}
use Rattle.sketch_frequencies.specs.Stands.{StandsFor, KeepsTailBudget, Extends, ExtendsBudget}
use Rattle.sketch_frequencies.specs.State.{FrequentState}
use Rattle.sketch_frequencies.specs.Steps.{StepsEqual}

-- one more item in the history
updated_more : {T : Type 0} (h : FrequentHistory T) (xs : List T) (x : T) → all_updated h (xs ++ x ∷ []) ≡ Update (all_updated h xs) x 1
updated_more h [] x = refl
updated_more h (y ∷ ys) x = updated_more (Update h y 1) ys x

-- one more step
steps_more : {T : Type 0} (eq : T → T → Bool) (old mid new : FrequentState T) (xs : List T) (x : T) → StepsEqualAlong eq old xs mid → StepsEqual eq mid x 1 new → StepsEqualAlong eq old (xs ++ x ∷ []) new
steps_more eq old mid new [] x s t = (new, subst (λ (m : FrequentState _). StepsEqual eq m x 1 new) s t, refl)
steps_more eq old mid new (y ∷ ys) x s t = (s.0, s.1, steps_more eq s.0 mid new ys x s.2 t)

-- no item is added yet
pub updates_none : {T : Type 0} (eq : T → T → Bool) (old : FrequentState T) → UpdatesAll eq old [] old
updates_none eq old = record { steps = refl; stands = λ h s. s; budget = λ h s k. k }

-- one more is
pub updates_more : {T : Type 0} (eq : T → T → Bool) (old mid new : FrequentState T) (xs : List T) (x : T) → UpdatesAll eq old xs mid → StepsEqual eq mid x 1 new → Extends eq mid new (λ h. Update h x 1) → ExtendsBudget eq mid new (λ h. Update h x 1) → UpdatesAll eq old (xs ++ x ∷ []) new
updates_more {T} eq old mid new xs x before step stands budget = record {
  steps = steps_more eq old mid new xs x before.steps step;
  stands = λ h s. subst (λ (g : FrequentHistory T). StandsFor eq new g) (sym (updated_more h xs x)) (stands (all_updated h xs) (before.stands h s));
  budget = λ h s k. subst (λ (g : FrequentHistory T). KeepsTailBudget eq new g) (sym (updated_more h xs x)) (budget (all_updated h xs) (before.stands h s) (before.budget h s k));
}

-- what holds of each image holds along the list of them
pub AllZip-map : {A B : Type 0} (R : A → B → Type 0) (f : A → B) → ((x : A) → R x (f x)) → (xs : List A) → AllZip R xs (map f xs)
AllZip-map R f h [] = tt
AllZip-map R f h (x ∷ xs) = (h x, AllZip-map R f h xs)

-- one error is one
pub err_is : {T E : Type 0} {a b : E} → IsErrOf {T = T} {E = E} (Err a) b → a ≡ b
err_is {T} {E} {a} {b} e = cc
