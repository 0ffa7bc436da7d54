-- Lines that a sink takes, many at once.
use Rattle.std.proofs.Common.{◌≡◌, ℕ, List, [], ◌++◌, append_assoc, append-nil, refl, sym, ◌∙◌, ap, subst}

module _ {S : Type 0} (takes : S → List (List ℕ) → S → Type 0) where
  -- the lines before those that are left were taken
  pub record HasTakenFront (all left : List (List ℕ)) (old new : S) : Type 0 where
    pub done : List (List ℕ)
    pub parts : all ≡ done ++ left
    pub taken : takes old done new

  pub front_none : ((s : S) → takes s [] s) → (all : List (List ℕ)) (old : S) → HasTakenFront all all old old
  front_none none all old = record { done = []; parts = refl; taken = none old }

  pub front_all : (all left : List (List ℕ)) (old new : S) → HasTakenFront all left old new → left ≡ [] → takes old all new
  front_all all left old new so none =
      subst (λ (l : List (List ℕ)). takes old l new) (sym (so.parts ∙ (ap (λ l. so.done ++ l) none ∙ append-nil so.done))) so.taken

  module _ (both : (r s t : S) (xs ys : List (List ℕ)) → takes r xs s → takes s ys t → takes r (xs ++ ys) t) where
    pub front_more : (all left more later : List (List ℕ)) (old mid new : S) → HasTakenFront all left old mid → left ≡ more ++ later → takes mid more new → HasTakenFront all later old new
    front_more all left more later old mid new so parts next = record {
      done = so.done ++ more;
      parts = so.parts ∙ (ap (λ l. so.done ++ l) parts ∙ sym (append_assoc so.done more later));
      taken = both old mid new so.done more so.taken next;
    }
