-- Lists that are related place by place.
use Rattle.std.proofs.Common.{◌≡◌, ℕ, Bool, true, false, List, [], ◌∷◌, ◌++◌, length, drop, nat_lt, if◌then◌else◌, refl, ap, sym, subst}
use Rattle.std.specs.List.{AllZip}
use Rattle.std.proofs.lemmas.Slice.Zip.{AllZip-long}
use Rattle.heavy_windows.specs.Newest.{latest, turned}

module _ {A B : Type 0} (R : A → B → Type 0) where
  -- the list on the right ends as the one on the left
  pub record Ends (xs : List A) (x : A) (ys : List B) : Type 0 where
    pub front : List B
    pub last : B
    pub whole : ys ≡ front ++ last ∷ []
    pub zip : AllZip R xs front
    pub related : R x last

  pub ends : (xs : List A) (x : A) (ys : List B) → AllZip R (xs ++ x ∷ []) ys → Ends xs x ys
  ends [] x [] z = absurd z
  ends [] x (y ∷ []) z = record { front = []; last = y; whole = refl; zip = tt; related = z.0 }
  ends [] x (y ∷ y' ∷ ys) z = absurd z.1
  ends (w ∷ ws) x [] z = absurd z
  ends (w ∷ ws) x (y ∷ ys) z =
      let e = ends ws x ys z.1 in
      record { front = y ∷ e.front; last = e.last; whole = ap (λ l. y ∷ l) e.whole; zip = (z.0, e.zip); related = e.related }

  pub zip_push : (xs : List A) (ys : List B) (x : A) (y : B) → AllZip R xs ys → R x y
      → AllZip R (xs ++ x ∷ []) (ys ++ y ∷ [])
  zip_push [] [] x y z r = (r, tt)
  zip_push [] (w ∷ ws) x y z r = absurd z
  zip_push (w ∷ ws) [] x y z r = absurd z
  zip_push (w ∷ ws) (v ∷ vs) x y z r = (z.0, zip_push ws vs x y z.1 r)

  zip_drop : (xs : List A) (ys : List B) → AllZip R xs ys → AllZip R (drop 1 xs) (drop 1 ys)
  zip_drop [] [] z = tt
  zip_drop [] (y ∷ ys) z = absurd z
  zip_drop (x ∷ xs) [] z = absurd z
  zip_drop (x ∷ xs) (y ∷ ys) z = z.1

  zip_either : (b : Bool) (xs : List A) (ys : List B) → AllZip R xs ys
      → AllZip R (if b then drop 1 xs else xs) (if b then drop 1 ys else ys)
  zip_either true xs ys z = zip_drop xs ys z
  zip_either false xs ys z = z

  zip_latest : (limit : ℕ) (xs : List A) (ys : List B) → AllZip R xs ys → AllZip R (latest limit xs) (latest limit ys)
  zip_latest limit xs ys z =
      subst (λ (n : ℕ). AllZip R (latest limit xs) (if nat_lt limit n then drop 1 ys else ys)) (sym (AllZip-long R xs ys z))
      (zip_either (nat_lt limit (length xs)) xs ys z)

  pub zip_turned : (limit : ℕ) (x : A) (y : B) (xs : List A) (ys : List B) → AllZip R xs ys → R x y
      → AllZip R (turned limit x xs) (turned limit y ys)
  zip_turned limit x y [] [] z r = tt
  zip_turned limit x y [] (w ∷ ws) z r = absurd z
  zip_turned limit x y (w ∷ ws) [] z r = absurd z
  zip_turned limit x y (w ∷ ws) (v ∷ vs) z r = zip_latest limit (w ∷ ws ++ x ∷ []) (v ∷ vs ++ y ∷ []) (zip_push (w ∷ ws) (v ∷ vs) x y z r)
