-- The digits that a run shows for an image, and the bytes that they make.
use Rattle.std.proofs.Common.{◌≡◌, ℕ, zero, suc, ◌-◌, ◌/◌, ◌%◌, ◌<◌, Bool, true, false, cond, List, [], ◌∷◌, ◌++◌, length, get_or, drop, Option, Some, None, Result, Ok, Err, inl, inr, refl, sym, ◌∙◌, ap, subst, arith, length-append}
use Rattle.std.specs.Prelude.{codes, ◌||◌, IsSome}
use Rattle.std.specs.Char.{is_ascii_hexdigit}
use Rattle.std.specs.Int.{is_in_range}
use Rattle.std.specs.Map.{lookup}
use Rattle.std.specs.Option.{is_some, option_and_then, option_map}
use Rattle.std.specs.List.{All, list_all}
use Rattle.std.specs.Result.{result_ok}
use Rattle.std.specs.Str.{bytes_eq}
use Rattle.std.proofs.lemmas.Bool.{cases_lt, and_right, true≢false}
use Rattle.std.proofs.lemmas.List.{get_or_past, get_or_push, append_cancel_right}
use Rattle.std.proofs.lemmas.List.Elements.{All-get_or, All-head, All-tail}
use Rattle.std.proofs.lemmas.List.Sums.{AllPass-from_list_all, list_all-from_AllPass}
use Rattle.std.specs.Global.{Global}
use Rattle.std.specs.declared.vec.Vec.{Vec}
use Rattle.hex.specs.Hex.{IsBytes, decode_of, encode_lower, encode_with, is_hex_digit, lower_digits}
use Rattle.hex.specs.declared.error.FromHexError.{FromHexError}
use Rattle.hex.proofs.HexLemmas.{decode_of-digits, decode_of-encode_lower, decode_of-ok, decode_of-same}
use Rattle.datasketches.specs.Actions.{Shape}
use Rattle.datasketches.specs.Actions as action
use Rattle.datasketches.specs.CountMinSizes.{CountMinSizes}
use Rattle.datasketches.specs.declared.image_kind.ImageKind.{ImageKind}
use Rattle.datasketches_cli.specs.Grammar.{Spelled, bytes_of_digits, number, signed_number, report_of, plain_kind, seeded_kind, count_min_sizes, filter_sizes, counts_of, load_of, one_word, two_words, three_words, four_words, five_words, request_of, split_words}
use Rattle.datasketches_cli.specs.Laws.{IsShownAs, LoadsWhatWasShown, DigitsMakeWhatWasShown}
use Rattle.datasketches_cli.specs.Requests.{Request, Act}

-- ---- the digits of bytes

abbrev IsDigit : ℕ → Type 0
IsDigit c = is_hex_digit c ≡ true

-- a place whose digit reads is one of sixteen
below_sixteen : (n : ℕ) → IsDigit (get_or lower_digits n 0) → n < 16
below_sixteen n reads =
    elim (cases_lt n 16) [
      | inl below ↦ below
      | inr above ↦
          let past : get_or lower_digits n 0 ≡ 0 = get_or_past lower_digits n 0 above in
          cc (rw past at reads)
    ]

-- numbers whose digits all read are bytes
are_bytes : (xs : List ℕ) → All IsDigit (encode_lower xs) → IsBytes xs
unfolding encode_with
are_bytes [] reads i = omega arith
are_bytes (x ∷ xs) reads zero =
    let low : List ℕ = get_or lower_digits (x % 16) 0 ∷ encode_with lower_digits xs in
    let high : x / 16 < 16 = below_sixteen (x / 16) (All-head IsDigit (get_or lower_digits (x / 16) 0) low reads) in
    omega (arith, high)
are_bytes (x ∷ xs) reads (suc i) =
    let low : List ℕ = get_or lower_digits (x % 16) 0 ∷ encode_with lower_digits xs in
    let rest : All IsDigit low = All-tail IsDigit (get_or lower_digits (x / 16) 0) low reads in
    are_bytes xs (All-tail IsDigit (get_or lower_digits (x % 16) 0) (encode_with lower_digits xs) rest) i

no_dash : (xs : List ℕ) → bytes_eq (encode_lower xs) (codes "-") ≡ false
unfolding encode_with
no_dash [] = refl
no_dash (x ∷ xs) = and_right _ _ refl

from_ok : (r : Result (List ℕ) FromHexError) (ys : List ℕ) → result_ok r ≡ Some ys → r ≡ Ok ys
from_ok (Ok xs) ys e = cc
from_ok (Err e) ys is = cc

-- the bytes that the digits of some numbers make are those numbers
read_back : (xs ys : List ℕ) → bytes_of_digits (encode_lower xs) ≡ Some ys → ys ≡ xs
read_back xs ys made =
    let decoded : decode_of (encode_lower xs) ≡ Ok ys = from_ok _ ys (rw (no_dash xs) at made) in
    decode_of-same (encode_lower xs) ys xs decoded (decode_of-encode_lower xs (are_bytes xs (decode_of-ok (encode_lower xs) ys decoded).1))

-- and the digits of bytes make them
make_them : (xs : List ℕ) → IsBytes xs → bytes_of_digits (encode_lower xs) ≡ Some xs
make_them xs bytes = rw (no_dash xs) (ap result_ok (decode_of-encode_lower xs bytes))

in_bytes : (xs : List ℕ) → All (λ byte. byte < 256) xs → IsBytes xs
in_bytes xs bytes i =
    elim (cases_lt i (length xs)) [
      | inl below ↦ All-get_or (λ byte. byte < 256) xs i 0 below bytes
      | inr above ↦ omega (arith, get_or_past xs i 0 above)
    ]

-- ---- which words make bytes

by_tests : (number upper lower : Bool) (x y z : ℕ) → ((number || upper) || lower) ≡ is_some (cond upper (Some x) (cond lower (Some y) (cond number (Some z) None)))
by_tests true true lower x y z = refl
by_tests true false true x y z = refl
by_tests true false false x y z = refl
by_tests false true lower x y z = refl
by_tests false false true x y z = refl
by_tests false false false x y z = refl

-- the digits of std are those of `hex`
same_digit : (c : ℕ) → is_ascii_hexdigit c ≡ is_hex_digit c
same_digit c = by_tests (is_in_range 48 57 c) (is_in_range 65 70 c) (is_in_range 97 102 c) (c - 55) (c - 87) (c - 48)

same_digits : (word : List ℕ) → list_all is_ascii_hexdigit word ≡ list_all is_hex_digit word
same_digits [] = refl
same_digits (c ∷ word) = rw (same_digit c, same_digits word) refl

some_case : (dash : Bool) (word bytes : List ℕ) → decode_of word ≡ Ok bytes → IsSome (cond dash (Some []) (result_ok (decode_of word)))
some_case true word bytes e = refl
some_case false word bytes e = rw e refl

-- an even number of digits makes bytes
pub some_bytes : (word : List ℕ) → length word % 2 ≡ 0 → list_all is_ascii_hexdigit word ≡ true → IsSome (bytes_of_digits word)
some_bytes word even digits =
    let made = decode_of-digits word even (AllPass-from_list_all is_hex_digit word (sym (same_digits word) ∙ digits)) in
    some_case (bytes_eq word (codes "-")) word made.0 made.1

none_case : (word : List ℕ) (r : Result (List ℕ) FromHexError) → decode_of word ≡ r → list_all is_ascii_hexdigit word ≡ false → result_ok r ≡ None
none_case word (Ok bytes) e bad =
    absurd (true≢false (sym (same_digits word ∙ list_all-from_AllPass is_hex_digit word (decode_of-ok word bytes e).1) ∙ bad))
none_case word (Err fault) e bad = refl

-- a word with another byte, which is no dash, makes none
pub no_bytes : (word : List ℕ) → bytes_eq word (codes "-") ≡ false → list_all is_ascii_hexdigit word ≡ false → bytes_of_digits word ≡ None
no_bytes word other bad = rw other (none_case word (decode_of word) refl bad)

-- ---- the lines

-- the digits of a reply are those of the bytes
shown_digits : (digits : List ℕ) (shown : Vec ℕ Global) → IsShownAs digits shown → digits ≡ encode_lower shown.items
shown_digits digits shown e = append_cancel_right digits (encode_lower shown.items) (codes "\n") (sym (ap (drop 6) e))

last_word : (words front : List (List ℕ)) (word : List ℕ) → words ≡ front ++ word ∷ [] → get_or words (length words - 1) [] ≡ word
last_word words front word e =
    let long : length words - 1 ≡ length front = omega (arith, ap length e, length-append front (word ∷ [])) in
    ap (λ (l : List (List ℕ)). get_or l (length words - 1) []) e ∙ get_or_push front word [] (length words - 1) (sym long)

-- ---- what the words after a verb load

-- if the request is a load, its bytes are those of the digits
abbrev LoadsBytes : Spelled → List ℕ → Type 0
LoadsBytes (Some (Act (action.Load name k bytes most))) digits = bytes_of_digits digits ≡ Some bytes
LoadsBytes _ digits = Unit {0}

mapped : {X : Type 0} (f : X → Request) (digits : List ℕ) → ((x : X) → LoadsBytes (Some (f x)) digits) → (found : Option X) → LoadsBytes (option_map f found) digits
mapped f digits loads None = tt
mapped f digits loads (Some x) = loads x

chained : {X : Type 0} (f : X → Spelled) (digits : List ℕ) → ((x : X) → LoadsBytes (f x) digits) → (found : Option X) → LoadsBytes (option_and_then f found) digits
chained f digits loads None = tt
chained f digits loads (Some x) = loads x

bytes_case : (name : List ℕ) (k : ImageKind) (most : ℕ) (digits : List ℕ) (found : Option (List ℕ)) → bytes_of_digits digits ≡ found → LoadsBytes (option_map (λ bytes. Act (action.Load name k bytes most)) found) digits
bytes_case name k most digits None e = tt
bytes_case name k most digits (Some bytes) e = e

load_loads : (name : List ℕ) (kind : Option ImageKind) (max digits d : List ℕ) → digits ≡ d → LoadsBytes (load_of name kind max digits) d
load_loads name kind max digits d same =
    subst (λ (l : List ℕ). LoadsBytes (load_of name kind max digits) l) same
    (chained _ digits (λ k. chained _ digits (λ m. bytes_case name k m digits (bytes_of_digits digits) refl) (number max)) kind)

counts_loads : (of : CountMinSizes → Shape) (name hashes buckets seed d : List ℕ) → LoadsBytes (counts_of of name hashes buckets seed) d
counts_loads of name hashes buckets seed d = mapped _ d (λ sizes. tt) (count_min_sizes hashes buckets seed)

module _ {X : Type 0} (apply : X → Spelled) (d : List ℕ) where
  abbrev AllLoad : List (List ℕ × X) → Type 0
  AllLoad [] = Unit {0}
  AllLoad (entry ∷ entries) = LoadsBytes (apply entry.1) d × AllLoad entries

  pick_case : (t : Bool) (spelled : X) (others : Option X) → LoadsBytes (apply spelled) d → LoadsBytes (option_and_then apply others) d → LoadsBytes (option_and_then apply (cond t (Some spelled) others)) d
  pick_case true spelled others first rest = first
  pick_case false spelled others first rest = rest

  found_loads : (test : List ℕ → Bool) (entries : List (List ℕ × X)) → AllLoad entries → LoadsBytes (option_and_then apply (lookup test entries)) d
  found_loads test [] all = tt
  found_loads test (entry ∷ entries) (first, rest) = pick_case (test entry.0) entry.1 (lookup test entries) first (found_loads test entries rest)

-- the digits of a load are its last word
request_loads : (words : List (List ℕ)) (d : List ℕ) → get_or words (length words - 1) [] ≡ d → LoadsBytes (request_of words) d
request_loads [] d last = tt
request_loads (v ∷ []) d last = tt
request_loads (v ∷ a ∷ []) d last =
    found_loads (λ s. s a) d (bytes_eq v) one_word (tt, (tt, (tt, (tt, (mapped _ d (λ t. tt) (number a), tt)))))
request_loads (v ∷ a ∷ b ∷ []) d last = found_loads (λ s. s a b) d (bytes_eq v) two_words
    (tt, (tt, (mapped _ d (λ m. tt) (number b), (tt, (tt, (tt, (tt, (tt, (tt, (chained _ d (λ w. mapped _ d (λ m. tt) (number b)) (number a), tt))))))))))
request_loads (v ∷ a ∷ b ∷ c ∷ []) d last =
    found_loads (λ s. s a b c) d (bytes_eq v) three_words (
      mapped _ d (λ w. tt) (number b),
      (
        mapped _ d (λ w. tt) (signed_number b),
        (
          chained _ d (λ m. mapped _ d (λ n. tt) (number c)) (number b),
          (
            chained _ d (λ n. mapped _ d (λ m. tt) (number c)) (number b),
            (
              chained _ d (λ r. mapped _ d (λ t. tt) (number c)) (report_of b),
              (
                chained _ d (λ t. mapped _ d (λ w. tt) (number b)) (number a),
                (chained _ d (λ t. chained _ d (λ r. mapped _ d (λ n. tt) (number c)) (report_of b)) (number a), tt),
              ),
            ),
          ),
        ),
      ),
    )
request_loads (v ∷ a ∷ b ∷ c ∷ e ∷ []) d last = found_loads (λ s. s a b c e) d (bytes_eq v) four_words (
  counts_loads action.CountI64 a b c e d,
  (
    counts_loads action.CountU64 a b c e d,
    (
      mapped _ d (λ sizes. tt) (filter_sizes b c e),
      (load_loads a (plain_kind b) c e d last, tt),
    ),
  ),
)
request_loads (v ∷ a ∷ b ∷ c ∷ e ∷ f ∷ []) d last =
    found_loads (λ s. s a b c e f) d (bytes_eq v) five_words (load_loads a (option_and_then (seeded_kind b) (number e)) c f d last, tt)
request_loads (v ∷ a ∷ b ∷ c ∷ e ∷ f ∷ g ∷ rest) d last = tt

pub loads_what_was_shown : LoadsWhatWasShown
loads_what_was_shown digits shown is line front name k image most words says =
    let own : digits ≡ encode_lower shown.items = shown_digits digits shown is in
    let made : bytes_of_digits digits ≡ Some image = subst (λ (o : Spelled). LoadsBytes o digits) says.1 (request_loads (split_words line) digits (last_word (split_words line) front digits words)) in
    read_back shown.items image (ap bytes_of_digits (sym own) ∙ made)

pub digits_make_what_was_shown : DigitsMakeWhatWasShown
digits_make_what_was_shown digits shown is bytes =
    ap bytes_of_digits (shown_digits digits shown is) ∙ make_them shown.items (in_bytes shown.items bytes)
