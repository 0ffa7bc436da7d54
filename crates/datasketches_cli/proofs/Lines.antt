-- The first line feed of an input, its first line, and the other lines.
use Rattle.std.proofs.Common.{◌≡◌, ◌≢◌, ℕ, ◌+◌, ◌-◌, ◌<◌, ◌≤◌, Bool, false, eqb, ltb, ◌&&◌, List, [], ◌∷◌, ◌++◌, length, get_or, take, map, not, ⊎_elim, append-nil, refl, sym, ◌∙◌, ap, subst, arith}
use Rattle.std.specs.Io.BufRead.{take_through, drop_through, strip_last}
use Rattle.std.specs.List.{slice_split, position_or_len, before_first, after_first}
use Rattle.std.proofs.BufReadLemmas.{take_through-append, drop_through-append}
use Rattle.std.proofs.lemmas.Bool.{cases_lt, eqb-true, eqb-false, ne_eqb, cond-false, and_right}
use Rattle.std.proofs.lemmas.Grind.{common_steps}
use Rattle.std.proofs.lemmas.List.{get_or-take, length-take-le, take_all, take_more}
use Rattle.std.proofs.lemmas.List.Elements.{All-from_get_or, All-get_or, All-weaker}
use Rattle.std.proofs.lemmas.List.Splits.{length-slice_split, slice_split_first, slice_split_none}
use Rattle.std.proofs.lemmas.List.Sums.{passes_at_first, fails_before_first, prefix_len-le-length, split_at_first}
use Rattle.datasketches_cli.specs.Reading.{HasNoFeed}
use Rattle.datasketches_cli.specs.Transcript.{without_empty_last, lines_of}

abbrev pub is_feed : ℕ → Bool
is_feed byte = eqb byte 10

-- the index of the first line feed, or the number of bytes
abbrev pub first_feed : List ℕ → ℕ
first_feed xs = position_or_len is_feed xs

-- no byte before the first line feed is one
pub before_feed : (xs : List ℕ) → HasNoFeed (before_first is_feed xs)
before_feed xs = All-from_get_or (λ byte. byte ≢ 10) (before_first is_feed xs) 0 (λ k less is.
    let end : first_feed xs ≤ length xs = prefix_len-le-length (λ (x : ℕ). not (is_feed x)) xs in
    let before : k < first_feed xs = omega (arith, less, length-take-le (first_feed xs) xs end) in
    eqb-false _ 10 (fails_before_first is_feed xs k 0 before) (sym (get_or-take (first_feed xs) xs k 0 before) ∙ is))

pub no_feed : (xs : List ℕ) → length xs ≤ first_feed xs → HasNoFeed xs
no_feed xs end = subst HasNoFeed (take_all (first_feed xs) xs end) (before_feed xs)

pub is_at_feed : (xs : List ℕ) → first_feed xs < length xs → get_or xs (first_feed xs) 0 ≡ 10
is_at_feed xs less = eqb-true _ 10 (passes_at_first is_feed xs 0 less)

-- the bytes before the first line feed, it, and the bytes after it
pub split_at : (xs : List ℕ) → first_feed xs < length xs → xs ≡ before_first is_feed xs ++ 10 ∷ after_first is_feed xs
split_at xs less = split_at_first is_feed xs 0 less ∙ ap (λ (n : ℕ). before_first is_feed xs ++ n ∷ after_first is_feed xs) (is_at_feed xs less)

pub through_front : (front rest : List ℕ) → HasNoFeed front → (take_through 10 (front ++ 10 ∷ rest) ≡ front ++ 10 ∷ []) × (drop_through 10 (front ++ 10 ∷ rest) ≡ rest)
through_front front rest h = (take_through-append 10 front (10 ∷ rest) h, drop_through-append 10 front (10 ∷ rest) h)

pub through_all : (xs : List ℕ) → HasNoFeed xs → (take_through 10 xs ≡ xs) × (drop_through 10 xs ≡ [])
through_all xs h = (
  ap (take_through 10) (sym (append-nil xs)) ∙ take_through-append 10 xs [] h ∙ append-nil xs,
  ap (drop_through 10) (sym (append-nil xs)) ∙ drop_through-append 10 xs [] h,
)

-- the line with its end is the list through its first line feed
pub through_first : (xs : List ℕ) → first_feed xs < length xs → (take_through 10 xs ≡ before_first is_feed xs ++ 10 ∷ []) × (drop_through 10 xs ≡ after_first is_feed xs)
through_first xs less =
    let read = through_front (before_first is_feed xs) (after_first is_feed xs) (before_feed xs) in
    (ap (take_through 10) (split_at xs less) ∙ read.0, ap (drop_through 10) (split_at xs less) ∙ read.1)

pub through_take : (xs : List ℕ) → first_feed xs < length xs → take_through 10 xs ≡ take (first_feed xs + 1) xs
through_take xs less =
    (through_first xs less).0 ∙ sym (take_more xs (first_feed xs) 0 less ∙ ap (λ (n : ℕ). before_first is_feed xs ++ n ∷ []) (is_at_feed xs less))

-- the line feed at the end is dropped
strip_fed : (front : List ℕ) → strip_last 10 (front ++ 10 ∷ []) ≡ front
strip_fed front = grind (arith, common_steps)

-- there is none to drop
strip_unended : (xs : List ℕ) → HasNoFeed xs → strip_last 10 xs ≡ xs
strip_unended [] h = refl
strip_unended (x ∷ xs) h =
    let last : eqb (get_or (x ∷ xs) (length (x ∷ xs) - 1) 0) 10 ≡ false = ne_eqb _ 10 (All-get_or (λ byte. byte ≢ 10) (x ∷ xs) (length (x ∷ xs) - 1) 0 (omega arith) h) in
    cond-false (ltb 0 (length (x ∷ xs)) && eqb (get_or (x ∷ xs) (length (x ∷ xs) - 1) 0) 10) (take (length (x ∷ xs) - 1) (x ∷ xs)) (x ∷ xs) (and_right (ltb 0 (length (x ∷ xs))) _ last)

-- only a last part can be dropped
without_empty_last_cons : (part : List ℕ) (parts : List (List ℕ)) → 0 < length parts → without_empty_last (part ∷ parts) ≡ part ∷ without_empty_last parts
without_empty_last_cons part [] h = absurd (omega arith)
without_empty_last_cons part (next ∷ parts) h = refl

-- a part that is not empty is a line
one_part : (xs : List ℕ) → xs ≢ [] → without_empty_last (xs ∷ []) ≡ xs ∷ []
one_part [] some = absurd (some refl)
one_part (x ∷ xs) some = cond-false (eqb (length (x ∷ xs)) 0) [] ((x ∷ xs) ∷ []) (ne_eqb (length (x ∷ xs)) 0 (λ z. omega arith))

-- a line that ends in a line feed
lines_fed : (xs : List ℕ) → first_feed xs < length xs → lines_of xs ≡ strip_last 13 (strip_last 10 (take_through 10 xs)) ∷ lines_of (drop_through 10 xs)
lines_fed xs less =
    let front : List ℕ = before_first is_feed xs in
    let rest : List (List ℕ) = slice_split is_feed (after_first is_feed xs) in
    let some_part : 0 < length rest = omega (arith, length-slice_split is_feed (after_first is_feed xs)) in
    let (t, d) = through_first xs less in
    let line : strip_last 10 (take_through 10 xs) ≡ front = ap (strip_last 10) t ∙ strip_fed front in
    ap (λ (l : List (List ℕ)). map (strip_last 13) (without_empty_last l)) (slice_split_first is_feed xs 0 less)
    ∙ ap (map (strip_last 13)) (without_empty_last_cons front rest some_part)
    ∙ (λ i. strip_last 13 (sym line i) ∷ lines_of (sym d i))

-- a line that ends with the input
lines_unended : (xs : List ℕ) → xs ≢ [] → HasNoFeed xs → lines_of xs ≡ strip_last 13 (strip_last 10 (take_through 10 xs)) ∷ lines_of (drop_through 10 xs)
lines_unended xs some pure =
    let (t, d) = through_all xs pure in
    let line : strip_last 10 (take_through 10 xs) ≡ xs = ap (strip_last 10) t ∙ strip_unended xs pure in
    ap (λ (l : List (List ℕ)). map (strip_last 13) (without_empty_last l)) (slice_split_none is_feed xs (All-weaker _ _ (λ x ne. ne_eqb x 10 ne) xs pure))
    ∙ ap (map (strip_last 13)) (one_part xs some) ∙ (λ i. strip_last 13 (sym line i) ∷ lines_of (sym d i))

-- the first line of an input that is not empty, and the lines after it
pub lines_first : (xs : List ℕ) → xs ≢ [] → lines_of xs ≡ strip_last 13 (strip_last 10 (take_through 10 xs)) ∷ lines_of (drop_through 10 xs)
lines_first xs some = ⊎_elim (lines_fed xs) (λ end. lines_unended xs some (no_feed xs end)) (cases_lt (first_feed xs) (length xs))
