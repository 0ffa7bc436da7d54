-- What an iterator gave, and one item more.
use Rattle.std.proofs.Common.{List, [], ◌∷◌, ◌++◌, Option, Some, refl, sym, subst}
use Rattle.std.specs.Iterator.{Yields}

pub yields_more : {S A : Type 0} (steps : S → Option A → S → Type 0) (s : S) (seen : List A) (t : S) (item : A) (u : S) → Yields steps s seen t → steps t (Some item) u → Yields steps s (seen ++ item ∷ []) u
yields_more steps s [] t item u gave one = (u, subst (λ k. steps k (Some item) u) (sym gave) one, refl)
yields_more steps s (x ∷ seen) t item u gave one = (gave.0, gave.1, yields_more steps gave.0 seen t item u gave.2 one)
