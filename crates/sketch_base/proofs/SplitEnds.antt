-- Bytes that are split behind the last separator.
use Rattle.std.proofs.Common.{◌≡◌, ℕ, zero, suc, ◌+◌, ◌-◌, ◌<◌, ◌≤◌, Bool, true, false, cond, List, [], ◌∷◌, ◌++◌, length, get_or, map, take, drop, filter, append_assoc, refl, sym, ◌∙◌, ap, subst, arith, length-append}
use Rattle.std.specs.List.{All, slice_split, onto_first}
use Rattle.std.specs.Str.{IsUtf8}
use Rattle.std.specs.Str.Lines.{lines, lines_of_parts, strip_carriage_return}
use Rattle.std.proofs.lemmas.List.{drop_more, take_more, drop_all, take-append-le, drop-append-le, get_or_append_left, take-append-drop}
use Rattle.std.proofs.lemmas.List.Elements.{filter-append, All-nil, All-cons, All-same}
use Rattle.std.proofs.lemmas.List.Splits.{length-slice_split}
use Rattle.std.proofs.lemmas.Str.{IsUtf8-nil, IsUtf8-take, IsUtf8-drop, IsCharBoundary-after_ascii}
use Rattle.sketch_base.specs.Split.{separates, words_by, IsBehindLast, SplitsAt, CutsUtf8}
use Rattle.sketch_base.specs.declared.separator.Separator.{Separator}
use Rattle.sketch_base.specs.declared.separator.Separator.TheVariants.{LineFeed}
use Rattle.sketch_base.proofs.SplitWords.{separator_below, not_empty}

nothing_more : {A : Type 0} (xs : List A) → xs ++ [] ≡ xs
nothing_more [] = refl
nothing_more (x ∷ xs) = ap (λ l. x ∷ l) (nothing_more xs)

onto_joined : {A : Type 0} (x : A) (us vs : List (List A)) → 0 < length us → onto_first x (us ++ vs) ≡ onto_first x us ++ vs
onto_joined x [] vs some = absurd (omega arith)
onto_joined x (u ∷ us) vs some = refl

-- the parts before an element that passes the test, and those after it
split_joined : (p : ℕ → Bool) (xs : List ℕ) (y : ℕ) (ys : List ℕ) → p y ≡ true → slice_split p (xs ++ y ∷ ys) ≡ slice_split p xs ++ slice_split p ys
split_joined p [] y ys stops = rw stops refl
split_joined p (x ∷ xs) y ys stops =
    elim (p x) as (λ b. cond b ([] ∷ slice_split p (xs ++ y ∷ ys)) (onto_first x (slice_split p (xs ++ y ∷ ys))) ≡ cond b ([] ∷ slice_split p xs) (onto_first x (slice_split p xs)) ++ slice_split p ys) [
      | true ↦ ap (λ l. [] ∷ l) (split_joined p xs y ys stops)
      | false ↦ ap (onto_first x) (split_joined p xs y ys stops) ∙ onto_joined x (slice_split p xs) (slice_split p ys) (omega (arith, length-slice_split p xs))
    ]

-- parts that an element ends, wherever it stands
module _ (parts before : List ℕ → List (List ℕ)) (p : ℕ → Bool) (none : parts [] ≡ []) (joined : (xs : List ℕ) (y : ℕ) (ys : List ℕ) → p y ≡ true → parts (xs ++ y ∷ ys) ≡ before xs ++ parts ys) where
  cut_there : (xs ys more : List ℕ) (y : ℕ) → p y ≡ true → parts ((xs ++ y ∷ ys) ++ more) ≡ parts (xs ++ y ∷ []) ++ parts (ys ++ more)
  cut_there xs ys more y stops =
      ap parts (append_assoc xs (y ∷ ys) more)
      ∙ joined xs y (ys ++ more) stops
      ∙ ap (λ l. l ++ parts (ys ++ more)) (sym (joined xs y [] stops ∙ ap (λ l. before xs ++ l) none ∙ nothing_more (before xs)))

  splits_behind : (bytes : List ℕ) (n : ℕ) → n < length bytes → p (get_or bytes n 0) ≡ true → SplitsAt parts bytes (n + 1)
  splits_behind bytes n less stops more =
      let y = get_or bytes n 0 in
      let whole : bytes ≡ take n bytes ++ y ∷ drop (n + 1) bytes = sym (take-append-drop n bytes) ∙ ap (λ l. take n bytes ++ l) (drop_more bytes n 0 less) in
      ap (λ l. parts (l ++ more)) whole
      ∙ cut_there (take n bytes) (drop (n + 1) bytes) more y stops
      ∙ ap (λ l. parts l ++ parts (drop (n + 1) bytes ++ more)) (sym (take_more bytes n 0 less))

  pub splits_at : (bytes : List ℕ) (at : ℕ) → at ≤ length bytes → IsBehindLast p bytes at → SplitsAt parts bytes at
  splits_at bytes zero le last = λ more. ap (λ l. l ++ parts (bytes ++ more)) (sym none)
  splits_at bytes (suc n) le last =
      let before : suc n - 1 ≡ n = omega arith in
      let next : n + 1 ≡ suc n = omega arith in
      subst (λ k. SplitsAt parts bytes k) next (splits_behind bytes n (omega arith) (ap (λ k. p (get_or bytes k 0)) (sym before) ∙ last.0 (omega arith)))

-- words
pub words_split : (s : Separator) (bytes : List ℕ) (at : ℕ) → at ≤ length bytes → IsBehindLast (separates s) bytes at → SplitsAt (words_by s) bytes at
words_split s = splits_at (words_by s) (words_by s) (separates s) refl
    (λ xs y ys stops. ap (filter not_empty) (split_joined (separates s) xs y ys stops) ∙ filter-append not_empty (slice_split (separates s) xs) (slice_split (separates s) ys))

pub lines_cons : (part : List ℕ) (parts : List (List ℕ)) → 0 < length parts → lines_of_parts (part ∷ parts) ≡ strip_carriage_return part ∷ lines_of_parts parts
lines_cons part [] some = absurd (omega arith)
lines_cons part (next ∷ parts) some = refl

lines_joined : (us vs : List (List ℕ)) → 0 < length vs → lines_of_parts (us ++ vs) ≡ map strip_carriage_return us ++ lines_of_parts vs
lines_joined [] vs some = refl
lines_joined (u ∷ us) vs some = lines_cons u (us ++ vs) (omega (arith, length-append us vs)) ∙ ap (λ l. strip_carriage_return u ∷ l) (lines_joined us vs some)

-- lines
pub lines_split : (bytes : List ℕ) (at : ℕ) → at ≤ length bytes → IsBehindLast (separates LineFeed) bytes at → SplitsAt lines bytes at
lines_split = splits_at lines (λ xs. map strip_carriage_return (slice_split (separates LineFeed) xs)) (separates LineFeed) refl
    (λ xs y ys stops. ap lines_of_parts (split_joined (separates LineFeed) xs y ys stops) ∙ lines_joined (slice_split (separates LineFeed) xs) (slice_split (separates LineFeed) ys) (omega (arith, length-slice_split (separates LineFeed) ys)))

-- UTF-8
cuts_behind : (bytes : List ℕ) (n : ℕ) → n < length bytes → get_or bytes n 0 < 128 → CutsUtf8 bytes (n + 1)
cuts_behind bytes n less below more utf8 =
    let same : get_or (bytes ++ more) n 0 ≡ get_or bytes n 0 = get_or_append_left bytes more 0 n less in
    let cut = IsCharBoundary-after_ascii (bytes ++ more) n utf8 (omega (arith, length-append bytes more, less)) (omega (arith, same, below)) in (
      subst IsUtf8 (take-append-le (n + 1) bytes more (omega (arith, less))) (IsUtf8-take (bytes ++ more) (n + 1) utf8 cut),
      subst IsUtf8 (drop-append-le (n + 1) bytes more (omega (arith, less))) (IsUtf8-drop (bytes ++ more) (n + 1) utf8 cut),
    )

pub utf8_cut : (s : Separator) (bytes : List ℕ) (at : ℕ) → at ≤ length bytes → IsBehindLast (separates s) bytes at → CutsUtf8 bytes at
utf8_cut s bytes zero le last = λ more utf8. (IsUtf8-nil, utf8)
utf8_cut s bytes (suc n) le last =
    let before : suc n - 1 ≡ n = omega arith in
    let next : n + 1 ≡ suc n = omega arith in
    subst (λ k. CutsUtf8 bytes k) next (cuts_behind bytes n (omega arith) (separator_below s (get_or bytes n 0) (ap (λ k. separates s (get_or bytes k 0)) (sym before) ∙ last.0 (omega arith))))

-- the bytes from the end of a search from the back on
abbrev pub NoneBehind : (ℕ → Bool) → List ℕ → ℕ → Type 0
NoneBehind p bytes at = All (λ byte. p byte ≡ false) (drop at bytes)

pub none_behind_end : (p : ℕ → Bool) (bytes : List ℕ) → NoneBehind p bytes (length bytes)
none_behind_end p bytes = All-same (λ byte. p byte ≡ false) _ [] (drop_all (length bytes) bytes (omega arith)) (All-nil (λ byte. p byte ≡ false))

pub none_behind_more : (p : ℕ → Bool) (bytes : List ℕ) (at : ℕ) → 0 < at → at ≤ length bytes → NoneBehind p bytes at → p (get_or bytes (at - 1) 0) ≡ false → NoneBehind p bytes (at - 1)
none_behind_more p bytes at some le none fails =
    let next : (at - 1) + 1 ≡ at = omega arith in
    All-same (λ byte. p byte ≡ false) _ _ (drop_more bytes (at - 1) 0 (omega arith)) (All-cons (λ byte. p byte ≡ false) _ _ fails (subst (λ k. NoneBehind p bytes k) (sym next) none))
