-- Lines that are taken from what was read, and more that is read.
use Rattle.std.proofs.Common.{◌≡◌, ◌≢◌, ℕ, ◌+◌, ◌-◌, ◌<◌, ◌≤◌, Bool, true, false, not, eqb, List, [], ◌∷◌, ◌++◌, length, take, drop, Option, None, Some, ⊎_elim, append_assoc, append-nil, refl, sym, ◌∙◌, ap, subst, arith, length-drop}
use Rattle.std.specs.Io.BufRead.{take_through, drop_through}
use Rattle.std.specs.Io.KnownBytes.{prepend_known}
use Rattle.std.specs.List.{Contains, position_or_len, slice_range, before_first}
use Rattle.std.specs.Option.{IfSome}
use Rattle.std.proofs.lemmas.Bool.{cases_lt, eqb-true, eqb-false, ne_eqb}
use Rattle.std.proofs.lemmas.List.{drop-take, drop-drop, length-take-le, take-take}
use Rattle.std.proofs.lemmas.List.Elements.{All-append}
use Rattle.std.proofs.lemmas.List.Sums.{passes_at_first, fails_before_first, prefix_len-le-length}
use Rattle.datasketches_cli.specs.Reading.{HasNoFeed, TakesFront, TakesLine, Fills}
use Rattle.datasketches_cli.proofs.Lines.{is_feed, first_feed, before_feed, no_feed, split_at, through_front, through_all, through_first, through_take}

-- ---- the first line feed of what was read

pub from_contains : (xs : List ℕ) → Contains xs 10 → position_or_len is_feed xs < length xs
from_contains xs (k, less, is) = ⊎_elim
    (λ l. l)
    (λ ge. absurd (eqb-false _ 10 (fails_before_first is_feed xs k 10 (omega arith)) is))
    (cases_lt (position_or_len is_feed xs) (length xs))

pub contains_from : (xs : List ℕ) → position_or_len is_feed xs < length xs → Contains xs 10
contains_from xs less = (position_or_len is_feed xs, less, eqb-true _ 10 (passes_at_first is_feed xs 10 less))

none_before : (xs : List ℕ) → ¬ Contains xs 10 → length xs ≤ first_feed xs
none_before xs none = ⊎_elim (λ l. absurd (none (contains_from xs l))) (λ ge. ge) (cases_lt (first_feed xs) (length xs))

-- what stays unread
later_range : (xs : List ℕ) (a b n : ℕ) → a + n ≤ b → drop n (slice_range xs a b) ≡ slice_range xs (a + n) b
later_range xs a b n le =
    let count : b - a ≡ n + (b - (a + n)) = omega arith in
    ap (λ (k : ℕ). drop n (take k (drop a xs))) count ∙ drop-take n (b - (a + n)) (drop a xs)
    ∙ ap (take (b - (a + n))) (drop-drop n a xs ∙ ap (λ (k : ℕ). drop k xs) (omega arith))

-- the line with its end, of what was read and not handed on
pub line_range : (items : List ℕ) (a b n : ℕ) → b ≤ length items → a ≤ b → n ≡ a + position_or_len is_feed (slice_range items a b) → Contains (slice_range items a b) 10 → slice_range items a (n + 1) ≡ take_through 10 (slice_range items a b)
line_range items a b n within le e has =
    let xs : List ℕ = slice_range items a b in
    let less : position_or_len is_feed xs < length xs = from_contains xs has in
    let len : length xs ≡ b - a = length-take-le (b - a) (drop a items) (omega (arith, length-drop a items)) in
    let count : (n + 1) - a ≡ position_or_len is_feed xs + 1 = omega arith in
    ap (λ (k : ℕ). take k (drop a items)) count ∙ sym (take-take (position_or_len is_feed xs + 1) (b - a) (drop a items) (omega arith)) ∙ sym (through_take xs less)

pub rest_range : (items : List ℕ) (a b n : ℕ) → b ≤ length items → a ≤ b → n ≡ a + position_or_len is_feed (slice_range items a b) → Contains (slice_range items a b) 10 → (n + 1 ≤ b) × (slice_range items (n + 1) b ≡ drop_through 10 (slice_range items a b))
rest_range items a b n within le e has =
    let xs : List ℕ = slice_range items a b in
    let less : position_or_len is_feed xs < length xs = from_contains xs has in
    let len : length xs ≡ b - a = length-take-le (b - a) (drop a items) (omega (arith, length-drop a items)) in
    let place : a + (position_or_len is_feed xs + 1) ≡ n + 1 = omega arith in
    (omega arith, ap (λ (k : ℕ). slice_range items k b) (sym place) ∙ sym (later_range items a b (position_or_len is_feed xs + 1) (omega arith)) ∙ sym (through_first xs less).1)

-- whether there is a line
pub feed_in_range : (items : List ℕ) (a b n : ℕ) → b ≤ length items → a ≤ b → n ≡ a + position_or_len is_feed (slice_range items a b) → (n < b → Contains (slice_range items a b) 10) × (Contains (slice_range items a b) 10 → n < b)
feed_in_range items a b n within le e =
    let xs : List ℕ = slice_range items a b in
    let len : length xs ≡ b - a = length-take-le (b - a) (drop a items) (omega (arith, length-drop a items)) in
    (λ l. contains_from xs (omega arith), λ has. omega (arith, from_contains xs has))

-- there is none at the end
pub feed_at_end : (items : List ℕ) (a b n : ℕ) → b ≤ length items → a ≤ b → n ≡ a + position_or_len is_feed (slice_range items a b) → ¬ Contains (slice_range items a b) 10 → n ≡ b + position_or_len is_feed (slice_range items b b)
feed_at_end items a b n within le e none =
    let xs : List ℕ = slice_range items a b in
    let len : length xs ≡ b - a = length-take-le (b - a) (drop a items) (omega (arith, length-drop a items)) in
    let zero_left : b - b ≡ 0 = omega arith in
    let empty : position_or_len is_feed (slice_range items b b) ≡ 0 = ap (λ (k : ℕ). position_or_len is_feed (take k (drop b items))) zero_left in
    let end : length xs ≤ first_feed xs = none_before xs none in
    omega (arith, prefix_len-le-length (λ (x : ℕ). not (is_feed x)) xs)

-- what was read goes through its first line feed
pub takes_some : (was held holds : List ℕ) → Contains was 10 → holds ≡ held ++ take_through 10 was → TakesFront true was (drop_through 10 was) held holds
takes_some was held holds has grown =
    let less : first_feed was < length was = from_contains was has in
    let line = through_first was less in
    (before_first is_feed was, before_feed was, split_at was less ∙ ap (λ (l : List ℕ). before_first is_feed was ++ 10 ∷ l) (sym line.1), grown ∙ ap (λ (l : List ℕ). held ++ l) line.0)

-- all that was read goes
pub takes_all : (items was held holds : List ℕ) (a b : ℕ) → slice_range items a b ≡ was → ¬ Contains was 10 → holds ≡ held ++ slice_range items a b → TakesFront false was (slice_range items b b) held holds
takes_all items was held holds a b e none grown =
    let zero_left : b - b ≡ 0 = omega arith in
    (no_feed was (none_before was none), ap (λ (k : ℕ). take k (drop b items)) zero_left, grown ∙ ap (λ (l : List ℕ). held ++ l) e)

-- ---- a line of the whole input

some_not_none : (xs : List ℕ) (y : ℕ) (ys : List ℕ) → xs ++ y ∷ ys ≢ []
some_not_none [] y ys e = cc
some_not_none (x ∷ xs) y ys e = cc

-- ---- a line piece by piece

-- where the input's bytes are known: the line has the first of them, with no line feed, and the others are left
abbrev pub Begins : Option (List ℕ) → Option (List ℕ) → List ℕ → Type 0
Begins was is line = IfSome was (λ bytes. (rest : List ℕ) × (is ≡ Some rest) × (bytes ≡ line ++ rest) × HasNoFeed line)

pub begins : (was : Option (List ℕ)) → Begins was was []
begins None = tt
begins (Some bytes) = (bytes, refl, refl, before_feed [])

-- the line is whole, with its line feed
pub taken : (was left : Option (List ℕ)) (s s' held holds : List ℕ) (ended : Bool) → Begins was (prepend_known s left) held → TakesFront ended s s' held holds → ended ≡ true → TakesLine true was (prepend_known s' left) holds
taken None left s s' held holds ended b t e = tt
taken (Some bytes) None s s' held holds ended (rest, is, split, clean) t e = cc
taken (Some bytes) (Some xs) s s' held holds ended (rest, is, split, clean) t e =
    let (front, pure, cut, grown) = rw e at t in
    let same : s ++ xs ≡ rest = cc in
    let behind : s ++ xs ≡ front ++ 10 ∷ (s' ++ xs) = ap (λ (l : List ℕ). l ++ xs) cut ∙ append_assoc front (10 ∷ s') xs in
    let whole : (held ++ front) ++ 10 ∷ (s' ++ xs) ≡ bytes = append_assoc held front (10 ∷ (s' ++ xs)) ∙ ap (λ (l : List ℕ). held ++ l) (sym behind ∙ same) ∙ sym split in
    let read = through_front (held ++ front) (s' ++ xs) (All-append (λ byte. byte ≢ 10) held front clean pure) in
    let told : holds ≡ (held ++ front) ++ 10 ∷ [] = grown ∙ sym (append_assoc held front (10 ∷ [])) in (
      λ none. some_not_none (held ++ front) 10 (s' ++ xs) (whole ∙ none),
      told ∙ sym read.0 ∙ ap (take_through 10) whole,
      ap Some (sym read.1 ∙ ap (drop_through 10) whole),
    )

-- such a line has a byte
pub taken_some : (s s' held holds : List ℕ) (ended : Bool) → TakesFront ended s s' held holds → ended ≡ true → holds ≢ []
taken_some s s' held holds ended t e none =
    let (front, pure, cut, grown) = rw e at t in
    some_not_none (held ++ front) 10 [] (append_assoc held front (10 ∷ []) ∙ sym grown ∙ none)

pub has_bytes : (xs : List ℕ) → xs ≢ [] → not (eqb (length xs) 0) ≡ true
has_bytes [] some = absurd (some refl)
has_bytes (x ∷ xs) some = ap not (ne_eqb (length (x ∷ xs)) 0 (λ z. omega arith))

-- the last line has no line feed, or there is none
ends : (bytes rest holds : List ℕ) (empty : Bool) → bytes ≡ holds → rest ≡ [] → HasNoFeed holds → empty ≡ eqb (length holds) 0 → TakesLine (not empty) (Some bytes) (Some rest) holds
ends bytes rest [] true e r h k = e
ends bytes rest (x ∷ xs) true e r h k = absurd (eqb-false (length (x ∷ xs)) 0 (ne_eqb (length (x ∷ xs)) 0 (λ z. omega arith)) (eqb-true (length (x ∷ xs)) 0 (sym k)))
ends bytes rest [] false e r h k = cc
ends bytes rest (x ∷ xs) false e r h k =
    let all = through_all (x ∷ xs) h in
    (λ none. let n : x ∷ xs ≡ [] = sym e ∙ none in cc, sym all.0 ∙ ap (take_through 10) (sym e), ap Some (r ∙ sym all.1 ∙ ap (drop_through 10) (sym e)))

-- no more input is left
pub over : (was left left' : Option (List ℕ)) (s s' s'' held holds : List ℕ) (ended more empty : Bool) (before now : ℕ) → Begins was (prepend_known s left) held → TakesFront ended s s' held holds → ended ≡ false → Fills more left s'' left' before now → more ≡ false → empty ≡ eqb (length holds) 0 → TakesLine (not empty) was (prepend_known s'' left') holds
over None left left' s s' s'' held holds ended more true before now b t e f m k = tt
over None left left' s s' s'' held holds ended more false before now b t e f m k = tt
over (Some bytes) None left' s s' s'' held holds ended more empty before now (rest, is, split, clean) t e f m k = cc
over (Some bytes) (Some xs) None s s' s'' held holds ended more empty before now (rest, is, split, clean) t e f m k = absurd f.0
over (Some bytes) (Some xs) (Some ys) s s' s'' held holds ended more empty before now (rest, is, split, clean) t e (gave, end, some) m k =
    let (pure, none, grown) = rw e at t in
    let (nothing, gone) = end m in
    let same : s ++ xs ≡ rest = cc in
    let last : xs ≡ [] = gave ∙ ap (λ (l : List ℕ). l ++ ys) nothing ∙ gone in
    let whole : bytes ≡ holds = split ∙ ap (λ (l : List ℕ). held ++ l) (sym same ∙ ap (λ (l : List ℕ). s ++ l) last ∙ append-nil s) ∙ sym grown in
    let rest' : s'' ++ ys ≡ [] = sym gave ∙ last in
    ends bytes (s'' ++ ys) holds empty whole rest' (subst HasNoFeed (sym grown) (All-append (λ byte. byte ≢ 10) held s clean pure)) k

-- more was read
pub goes_on : (was left left' : Option (List ℕ)) (s s' s'' held holds : List ℕ) (ended more : Bool) (before now : ℕ) → Begins was (prepend_known s left) held → TakesFront ended s s' held holds → ended ≡ false → Fills more left s'' left' before now → Begins was (prepend_known s'' left') holds
goes_on None left left' s s' s'' held holds ended more before now b t e f = tt
goes_on (Some bytes) None left' s s' s'' held holds ended more before now (rest, is, split, clean) t e f = cc
goes_on (Some bytes) (Some xs) None s s' s'' held holds ended more before now (rest, is, split, clean) t e f = absurd f.0
goes_on (Some bytes) (Some xs) (Some ys) s s' s'' held holds ended more before now (rest, is, split, clean) t e (gave, end, some) =
    let (pure, none, grown) = rw e at t in
    let same : s ++ xs ≡ rest = cc in (
      s'' ++ ys,
      refl,
      split ∙ ap (λ (l : List ℕ). held ++ l) (sym same) ∙ sym (append_assoc held s xs) ∙ (λ i. sym grown i ++ gave i),
      subst HasNoFeed (sym grown) (All-append (λ byte. byte ≢ 10) held s clean pure),
    )
