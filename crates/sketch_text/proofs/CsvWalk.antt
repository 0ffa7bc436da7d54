-- The first byte that passes a test outside of quotes.
use Rattle.std.proofs.Common.{◌≡◌, ℕ, ◌+◌, ◌<◌, ◌≤◌, Bool, true, false, not, cond, eqb, ◌&&◌, ◌||◌, List, [], ◌∷◌, ◌++◌, length, get_or, take, drop, refl, sym, ◌∙◌, ap, subst, arith, length-drop}
use Rattle.std.specs.List.{All, position_or_len}
use Rattle.std.proofs.lemmas.List.{take_more}
use Rattle.std.proofs.lemmas.List.Elements.{All-head, All-tail}
use Rattle.std.proofs.Math.Seq.{take-add}
use Rattle.sketch_text.specs.Csv.{after_byte, after_bytes, cuts, ends_field, in_quotes, is_feed, IsOnePart, IsFirstCut, IsFirstEnd, IsStill}
use Rattle.sketch_text.specs.declared.place.Place.{Place}
use Rattle.sketch_text.specs.declared.place.Place.TheVariants.{Start, Bare, Quoted, Closed}
use Rattle.sketch_text.proofs.CsvRuns.{after_append, one_append, none_pass}

-- the bytes before an index were seen, and none of them passes the test outside of quotes
pub record HasSeen (ends test : ℕ → Bool) (place : Place) (bytes : List ℕ) (at : ℕ) (here : Place) : Type 0 where
  pub within : at ≤ length bytes
  pub one : IsOnePart ends test place (take at bytes)
  pub place_is : here ≡ after_bytes ends place (take at bytes)

pub seen_none : (ends test : ℕ → Bool) (place : Place) (bytes : List ℕ) → HasSeen ends test place bytes 0 place
seen_none ends test place bytes = record { within = omega arith; one = tt; place_is = refl }

-- a run
pub seen_still : (ends test : ℕ → Bool) (place : Place) (bytes : List ℕ) (at n : ℕ) (here : Place) → ((x : ℕ) → test x ≡ true → ends x ≡ true) → HasSeen ends test place bytes at here → n ≤ length (drop at bytes) → IsStill ends here (take n (drop at bytes)) → HasSeen ends test place bytes (at + n) here
seen_still ends test place bytes at n here within seen room still =
    let parts : take (at + n) bytes ≡ take at bytes ++ take n (drop at bytes) = take-add at n bytes in
    let run : List ℕ = take n (drop at bytes) in
    record {
      within = let bound : at ≤ length bytes = seen.within in omega (arith, room, length-drop at bytes, bound);
      one =
          subst (IsOnePart ends test place) (sym parts)
          (one_append ends test place (take at bytes) run seen.one (subst (λ (p : Place). IsOnePart ends test p run) seen.place_is (still.1 test within)));
      place_is =
          sym still.0 ∙ (ap (λ (p : Place). after_bytes ends p run) seen.place_is
          ∙ (sym (after_append ends test place (take at bytes) run) ∙ ap (after_bytes ends place) (sym parts)));
    }

-- one byte more
pub seen_byte : (ends test : ℕ → Bool) (place : Place) (bytes : List ℕ) (at : ℕ) (here : Place) → HasSeen ends test place bytes at here → at < length bytes → cuts test here (get_or bytes at 0) ≡ false → HasSeen ends test place bytes (at + 1) (after_byte (ends (get_or bytes at 0)) here (get_or bytes at 0))
seen_byte ends test place bytes at here seen less none =
    let x : ℕ = get_or bytes at 0 in
    let parts : take (at + 1) bytes ≡ take at bytes ++ x ∷ [] = take_more bytes at 0 less in
    record {
      within = omega (arith, less);
      one =
          subst (IsOnePart ends test place) (sym parts)
          (one_append ends test place (take at bytes) (x ∷ []) seen.one (subst (λ (p : Place). IsOnePart ends test p (x ∷ [])) seen.place_is (none, tt)));
      place_is =
          ap (λ (p : Place). after_byte (ends x) p x) seen.place_is
          ∙ (sym (after_append ends test place (take at bytes) (x ∷ [])) ∙ ap (after_bytes ends place) (sym parts));
    }

-- a byte in quotes, and one that does not pass
pub no_cut_quoted : (test : ℕ → Bool) (here : Place) (x : ℕ) → not (in_quotes here) ≡ false → cuts test here x ≡ false
no_cut_quoted test here x e = ap (λ b. b && test x) e

pub no_cut_other : (test : ℕ → Bool) (here : Place) (x : ℕ) → test x ≡ false → cuts test here x ≡ false
no_cut_other test here x e = elim (in_quotes here) as (λ q. (not q && test x) ≡ false) [ true ↦ refl | false ↦ e ]

pub is_cut : (test : ℕ → Bool) (here : Place) (x : ℕ) → not (in_quotes here) ≡ true → test x ≡ true → cuts test here x ≡ true
is_cut test here x e h = ap (λ b. b && test x) e ∙ h

pub cut_parts : (test : ℕ → Bool) (here : Place) (x : ℕ) → cuts test here x ≡ true → (in_quotes here ≡ false) × (test x ≡ true)
cut_parts test here x e =
    elim (in_quotes here) as (λ q. (not q && test x) ≡ true → (q ≡ false) × (test x ≡ true)) [
      | true ↦ λ h. cc
      | false ↦ λ h. (refl, h)
    ] e

-- the walk stops at the end, or at a byte that passes
pub cut_at_end : (ends test : ℕ → Bool) (place : Place) (bytes : List ℕ) (at : ℕ) (here : Place) → HasSeen ends test place bytes at here → length bytes ≤ at → IsFirstCut ends test place bytes at
cut_at_end ends test place bytes at here seen le = (seen.one, λ less. absurd (omega (arith, less, le)))

pub cut_here : (ends test : ℕ → Bool) (place : Place) (bytes : List ℕ) (at : ℕ) (here : Place) → HasSeen ends test place bytes at here → cuts test here (get_or bytes at 0) ≡ true → IsFirstCut ends test place bytes at
cut_here ends test place bytes at here seen cut = (seen.one, λ less. subst (λ (p : Place). cuts test p (get_or bytes at 0) ≡ true) seen.place_is cut)

-- ---- bytes without quotes and line feeds

module _ (delimiter : ℕ) where
  abbrev IsPlain : ℕ → Type 0
  IsPlain x = (eqb x 10 || eqb x 34) ≡ false

  no_quote : (x : ℕ) → IsPlain x → eqb x 34 ≡ false
  no_quote x plain = elim (eqb x 10) as (λ a. (a || eqb x 34) ≡ false → eqb x 34 ≡ false) [ true ↦ λ h. cc | false ↦ λ h. h ] plain

  no_feed : (x : ℕ) → IsPlain x → eqb x 10 ≡ false
  no_feed x plain = elim (eqb x 10) as (λ a. (a || eqb x 34) ≡ false → a ≡ false) [ true ↦ λ h. h | false ↦ λ h. refl ] plain

  still_out : (place : Place) (b q : Bool) (x : ℕ) → in_quotes place ≡ false → eqb x 34 ≡ q → q ≡ false → in_quotes (after_byte b place x) ≡ false
  still_out Start true q x out e none = ap (λ t. in_quotes (cond t Quoted Start)) (e ∙ none)
  still_out Start false q x out e none = ap (λ t. in_quotes (cond t Quoted Bare)) (e ∙ none)
  still_out Bare true q x out e none = refl
  still_out Bare false q x out e none = refl
  still_out Quoted b q x out e none = cc
  still_out Closed true q x out e none = ap (λ t. in_quotes (cond t Quoted Start)) (e ∙ none)
  still_out Closed false q x out e none = ap (λ t. in_quotes (cond t Quoted Bare)) (e ∙ none)

  plain_one : (place : Place) (xs : List ℕ) → in_quotes place ≡ false → All IsPlain xs → IsOnePart (ends_field delimiter) is_feed place xs × (in_quotes (after_bytes (ends_field delimiter) place xs) ≡ false)
  plain_one place [] out plain = (tt, out)
  plain_one place (x ∷ xs) out plain =
      let here : IsPlain x = All-head IsPlain x xs plain in
      let more : IsOnePart (ends_field delimiter) is_feed (after_byte (ends_field delimiter x) place x) xs × (in_quotes (after_bytes (ends_field delimiter) (after_byte (ends_field delimiter x) place x) xs) ≡ false) =
      plain_one (after_byte (ends_field delimiter x) place x) xs (still_out place (ends_field delimiter x) (eqb x 34) x out refl (no_quote x here)) (All-tail IsPlain x xs plain) in
      ((no_cut_other is_feed place x (no_feed x here), more.0), more.1)

  -- a line feed comes before any quote, or neither comes
  pub plain_end : (place : Place) (bytes : List ℕ) (at : ℕ) → in_quotes place ≡ false → at ≡ position_or_len (λ x. eqb x 10 || eqb x 34) bytes → (at < length bytes → get_or bytes at 0 ≡ 10) → IsFirstEnd delimiter place bytes at
  plain_end place bytes at out e feed =
      let plain : All IsPlain (take at bytes) = rw e (none_pass (λ x. eqb x 10 || eqb x 34) bytes) in
      let (one, after) = plain_one place (take at bytes) out plain in
      (one, λ less. is_cut is_feed (after_bytes (ends_field delimiter) place (take at bytes)) (get_or bytes at 0) (ap not after) (ap (λ x. eqb x 10) (feed less)))

  -- a line feed ends a field
  pub within_fields : (x : ℕ) → is_feed x ≡ true → ends_field delimiter x ≡ true
  within_fields x feed = ap (λ b. b || eqb x delimiter) feed
