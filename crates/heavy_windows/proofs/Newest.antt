-- Windows as a list with the newest at its end.
use Rattle.std.proofs.Common.{◌≡◌, ℕ, ◌-◌, ◌<◌, ◌≤◌, Bool, if◌then◌else◌, List, [], ◌∷◌, ◌++◌, length, drop, refl, ap, ◌∙◌, arith}
use Rattle.std.proofs.lemmas.Bool.{lt-ltb, le-ltb}
use Rattle.std.proofs.Math.Seq.{take-append_seam}
use Rattle.std.proofs.lemmas.List.{length-append}
use Rattle.heavy_windows.specs.Newest.{newest, with_newest, latest, turned}

module _ {X : Type 0} where
  pub newest_last : (fresh : X) (xs : List X) (x : X) → newest fresh (xs ++ x ∷ []) ≡ x
  newest_last fresh [] x = refl
  newest_last fresh (y ∷ ys) x = newest_last y ys x

  pub with_newest_last : (xs : List X) (x y : X) → with_newest (xs ++ x ∷ []) y ≡ xs ++ y ∷ []
  with_newest_last xs x y =
      let e : length (xs ++ x ∷ []) - 1 ≡ length xs = omega (arith, length-append xs (x ∷ [])) in
      rw (e, take-append_seam) refl

  pub turned_last : (limit : ℕ) (fresh : X) (xs : List X) (x : X)
      → turned limit fresh (xs ++ x ∷ []) ≡ latest limit ((xs ++ x ∷ []) ++ fresh ∷ [])
  turned_last limit fresh [] x = refl
  turned_last limit fresh (y ∷ ys) x = refl

  -- the same of windows that are known to end so
  pub newest_is : (fresh : X) (xs ws : List X) (x : X) → xs ++ x ∷ [] ≡ ws → newest fresh ws ≡ x
  newest_is fresh xs ws x e = rw (← e) (newest_last fresh xs x)

  drop_first : (xs : List X) (x y : X) → drop 1 ((xs ++ x ∷ []) ++ y ∷ []) ≡ drop 1 (xs ++ x ∷ []) ++ y ∷ []
  drop_first [] x y = refl
  drop_first (z ∷ zs) x y = refl

  -- there is room for one more
  pub turned_keeps : (limit : ℕ) (fresh : X) (xs ws : List X) (x : X) → xs ++ x ∷ [] ≡ ws
      → length (xs ++ x ∷ []) < limit → turned limit fresh ws ≡ (xs ++ x ∷ []) ++ fresh ∷ []
  turned_keeps limit fresh xs ws x e below =
      let all = (xs ++ x ∷ []) ++ fresh ∷ [] in
      let l : length all ≤ limit = omega (arith, below, length-append (xs ++ x ∷ []) (fresh ∷ [])) in
      rw (← e) (turned_last limit fresh xs x ∙ ap (λ (b : Bool). if b then drop 1 all else all) (le-ltb limit (length all) l))

  -- the oldest goes
  pub turned_drops : (limit : ℕ) (fresh : X) (xs ws : List X) (x : X) → xs ++ x ∷ [] ≡ ws
      → limit ≤ length (xs ++ x ∷ []) → turned limit fresh ws ≡ drop 1 (xs ++ x ∷ []) ++ fresh ∷ []
  turned_drops limit fresh xs ws x e above =
      let all = (xs ++ x ∷ []) ++ fresh ∷ [] in
      let l : limit < length all = omega (arith, above, length-append (xs ++ x ∷ []) (fresh ∷ [])) in
      rw (← e) (turned_last limit fresh xs x ∙ (ap (λ (b : Bool). if b then drop 1 all else all) (lt-ltb limit (length all) l) ∙ drop_first xs x fresh))
