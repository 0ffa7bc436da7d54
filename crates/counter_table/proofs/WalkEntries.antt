-- What a walk has given.
use Rattle.std.proofs.Common.{◌≡◌, ℕ, List, [], ◌∷◌, ◌++◌, Some, length, map, ap, sym, subst, IsPermutation}
use Rattle.std.specs.Prelude.{Result, IfOk, Vec, vec_items}
use Rattle.std.specs.Borrow.{Bor}
use Rattle.std.proofs.lemmas.Iterator.{YieldsList, IsCollectResult}
use Rattle.std.proofs.lemmas.Iterator.Consumers.{YieldsList-from_shown, map_from_collect}
use Rattle.std.proofs.lemmas.List.{append_assoc}
use Rattle.std.proofs.lemmas.Result.{IfOk-weaker}
use Rattle.counter_table.specs.Walk.{Walk, WalkGives, entry_of}

-- what was given and what is left make up one list at each step
pub walk_whole : {T : Type 0} (s t : Walk T) (x : Bor T × ℕ) → WalkGives s (Some x) t → t.given ++ t.rest ≡ s.given ++ s.rest
walk_whole {T} s t x h = rw (h.1, h.0) (append_assoc s.given (entry_of x ∷ []) t.rest)

-- the items of a walk show its entries
YieldsList-walk : {T : Type 0} (s : Walk T) → YieldsList WalkGives entry_of s s.rest
YieldsList-walk {T} s = YieldsList-from_shown WalkGives entry_of (λ (w : Walk T). w.rest) (λ u v h. ap length h.0.0) (λ u x v h. h.0) s

-- what `collect` gives of a walk is every entry once
pub collected : {T Z E : Type 0} (es : List (T × ℕ)) (s : Walk T) (r : Result (Vec (Bor T × ℕ) Z) E) → IsPermutation es s.rest → IsCollectResult WalkGives s r → IfOk r (λ w. IsPermutation es (map entry_of (vec_items w)))
collected es s r p ran = IfOk-weaker _ _ _ (λ w e. subst (λ l. IsPermutation es l) (sym e) p) (map_from_collect r ran (YieldsList-walk s))
