-- The words of a line, and the request that they spell.
use Rattle.std.specs.Prelude.{◌≡◌, ℕ, ◌+◌, ◌^◌, nat_lt, ◌==◌, ◌&&◌, List, [], ◌∷◌, length, drop, slice_index, Option, Some, None, option_map, if◌then◌else◌, codes, ℤ, pos, neg_ℤ}
use Rattle.std.specs.Map.{lookup}
use Rattle.std.specs.Option.{option_and_then}
use Rattle.std.specs.Result.{result_ok}
use Rattle.std.specs.Str.{IsUtf8, all_ascii_digits, bytes_eq}
use Rattle.std.specs.Str.Parse.{digits_value}
use Rattle.hex.specs.Hex.{decode_of}
use Rattle.sketch_base.specs.Split.{words_by}
use Rattle.sketch_base.specs.declared.separator.Separator.TheVariants.{Space}
use Rattle.datasketches.specs.Actions.{Shape}
use Rattle.datasketches.specs.Actions as action
use Rattle.datasketches.specs.Building.{Request as FilterSizes}
use Rattle.datasketches.specs.CountMinSizes.{CountMinSizes}
use Rattle.datasketches.specs.ErrorType.{ErrorType}
use Rattle.datasketches.specs.ErrorType.TheVariants.{NoFalseNegatives, NoFalsePositives}
use Rattle.datasketches.specs.declared.image_kind.ImageKind.{ImageKind}
use Rattle.datasketches.specs.declared.image_kind.ImageKind.TheVariants as kind
use Rattle.datasketches_cli.specs.Requests.{Request, Act, OpenWindows, AddTo, TurnOf, ReportOf}

-- the words of a line: the nonempty parts between its spaces
abbrev pub split_words : List ℕ → List (List ℕ)
split_words line = words_by Space line

-- the number that the digits of a word spell, if it is below the limit
abbrev pub number_below : ℕ → List ℕ → Option ℕ
number_below limit word =
    if nat_lt 0 (length word) && all_ascii_digits word && nat_lt (digits_value 10 word) limit
    then Some (digits_value 10 word) else None

-- the `i64` that a word spells: its digits, after a minus sign or none
unfoldable pub signed_number : List ℕ → Option ℤ
signed_number word =
    if slice_index word 0 == 45 then option_map (λ n. neg_ℤ (pos n)) (number_below (2 ^ 63 + 1) (drop 1 word))
    else option_map pos (number_below (2 ^ 63) word)

-- the bytes that the hexadecimal digits of a word spell, two digits of either case for a byte. The word `-` spells no bytes
abbrev pub bytes_of_digits : List ℕ → Option (List ℕ)
bytes_of_digits word = if bytes_eq word (codes "-") then Some [] else result_ok (decode_of word)

-- the number of 64 bits that a word spells
abbrev pub number : List ℕ → Option ℕ
number word = number_below (2 ^ 64) word

-- the kind of report that a word spells
abbrev pub report_of : List ℕ → Option ErrorType
report_of word =
    if bytes_eq word (codes "fn") then Some NoFalseNegatives
    else (if bytes_eq word (codes "fp") then Some NoFalsePositives else None)

-- the kind of image that a word spells, and that which a word and a seed spell
abbrev pub plain_kind : List ℕ → Option ImageKind
plain_kind word =
    if bytes_eq word (codes "frequent") then Some kind.Frequent
    else (if bytes_eq word (codes "bloom") then Some kind.Bloom else None)

abbrev pub seeded_kind : List ℕ → ℕ → Option ImageKind
seeded_kind word seed =
    if bytes_eq word (codes "counti") then Some (kind.CountI64 seed)
    else (if bytes_eq word (codes "countu") then Some (kind.CountU64 seed) else None)

-- a request, if any
abbrev pub Spelled : Type 0
Spelled = Option Request

-- the sizes and the seed of a Count-Min sketch that three words spell
abbrev pub count_min_sizes : (hashes buckets seed : List ℕ) → Option CountMinSizes
count_min_sizes hashes buckets seed =
    option_and_then (λ h. option_and_then (λ b. option_map (λ s. record { num_hashes = h; num_buckets = b; seed = s }) (number seed))
    (number_below (2 ^ 32) buckets)) (number_below (2 ^ 8) hashes)

-- the sizes and the seed of a filter that three words spell
abbrev pub filter_sizes : (bits hashes seed : List ℕ) → Option FilterSizes
filter_sizes bits hashes seed =
    option_and_then (λ b. option_and_then (λ h. option_map (λ s. record { num_bits = b; num_hashes = h; seed = s }) (number seed))
    (number_below (2 ^ 16) hashes)) (number bits)

-- ---- what the words after a verb spell

-- after `hturn`
abbrev pub hturn_of : (tenant : List ℕ) → Spelled
hturn_of tenant = option_map TurnOf (number tenant)

-- after `frequent`
abbrev pub frequent_of : (name max : List ℕ) → Spelled
frequent_of name max = option_map (λ m. Act (action.Create name (action.Frequent (action.usual_sizes m)))) (number max)

-- after `windows`
abbrev pub windows_of : (windows max : List ℕ) → Spelled
windows_of windows max = option_and_then (λ w. option_map (OpenWindows w) (number max)) (number windows)

-- after `add`
abbrev pub add_of : (name weight item : List ℕ) → Spelled
add_of name weight item = option_map (λ w. Act (action.Alter name (action.Add item w))) (number weight)

-- after `adds`
abbrev pub adds_of : (name weight item : List ℕ) → Spelled
adds_of name weight item = option_map (λ w. Act (action.Alter name (action.AddSigned item w))) (signed_number weight)

-- after `sampled`
abbrev pub sampled_of : (name max sample : List ℕ) → Spelled
sampled_of name max sample =
    option_and_then (λ m. option_map (λ n.
    Act (action.Create name (action.Frequent (record { max_map_size = m; sample_size = n })))) (number sample)) (number max)

-- after `decay`
abbrev pub decay_of : (name numerator denominator : List ℕ) → Spelled
decay_of name numerator denominator =
    option_and_then (λ n. option_map (λ d. Act (action.Alter name (action.Decay n d))) (number denominator)) (number numerator)

-- after `rows`
abbrev pub rows_of : (name report threshold : List ℕ) → Spelled
rows_of name report threshold =
    option_and_then (λ r. option_map (λ t. Act (action.ListRows name r t)) (number threshold)) (report_of report)

-- after `hadd`
abbrev pub hadd_of : (tenant weight item : List ℕ) → Spelled
hadd_of tenant weight item = option_and_then (λ t. option_map (λ w. AddTo t w item) (number weight)) (number tenant)

-- after `hreport`
abbrev pub hreport_of : (tenant report threshold : List ℕ) → Spelled
hreport_of tenant report threshold =
    option_and_then (λ t. option_and_then (λ r. option_map (ReportOf t r) (number threshold)) (report_of report)) (number tenant)

-- after a verb that creates a Count-Min sketch
abbrev pub counts_of : (CountMinSizes → Shape) → (name hashes buckets seed : List ℕ) → Spelled
counts_of shape name hashes buckets seed =
    option_map (λ sizes. Act (action.Create name (shape sizes))) (count_min_sizes hashes buckets seed)

-- after `bloom`
abbrev pub bloom_of : (name bits hashes seed : List ℕ) → Spelled
bloom_of name bits hashes seed = option_map (λ sizes. Act (action.Create name (action.Bloom sizes))) (filter_sizes bits hashes seed)

-- after `load`, where the kind of image is known
abbrev pub load_of : (name : List ℕ) → Option ImageKind → (max digits : List ℕ) → Spelled
load_of name kind max digits =
    option_and_then (λ k. option_and_then (λ m. option_map (λ bytes. Act (action.Load name k bytes m)) (bytes_of_digits digits))
    (number max)) kind

-- after `load`, for a kind with a seed
abbrev pub load_seeded_of : (name kind max seed digits : List ℕ) → Spelled
load_seeded_of name kind max seed digits = load_of name (option_and_then (seeded_kind kind) (number seed)) max digits

-- ---- each verb and what the words after it spell, by the number of these words

abbrev pub one_word : List (List ℕ × (List ℕ → Spelled))
one_word =
    (codes "reset", λ name. Some (Act (action.Alter name action.Reset)))
    ∷ (codes "halve", λ name. Some (Act (action.Alter name action.Halve)))
    ∷ (codes "image", λ image. Some (Act (action.ShowImage image)))
    ∷ (codes "status", λ name. Some (Act (action.GetStatus name)))
    ∷ (codes "hturn", hturn_of) ∷ []

abbrev pub two_words : List (List ℕ × (List ℕ → List ℕ → Spelled))
two_words =
    (codes "insert", λ name item. Some (Act (action.Alter name (action.Insert item))))
    ∷ (codes "ask", λ name item. Some (Act (action.Ask name item)))
    ∷ (codes "frequent", frequent_of)
    ∷ (codes "merge", λ into other. Some (Act (action.Combine into other action.Merge)))
    ∷ (codes "union", λ into other. Some (Act (action.Combine into other action.Union)))
    ∷ (codes "intersect", λ into other. Some (Act (action.Combine into other action.Intersect)))
    ∷ (codes "difference", λ into other. Some (Act (action.Combine into other action.Difference)))
    ∷ (codes "save", λ name image. Some (Act (action.Save name image)))
    ∷ (codes "restore", λ image name. Some (Act (action.Restore image name)))
    ∷ (codes "windows", windows_of) ∷ []

abbrev pub three_words : List (List ℕ × (List ℕ → List ℕ → List ℕ → Spelled))
three_words =
    (codes "add", add_of) ∷ (codes "adds", adds_of) ∷ (codes "sampled", sampled_of) ∷ (codes "decay", decay_of)
    ∷ (codes "rows", rows_of) ∷ (codes "hadd", hadd_of) ∷ (codes "hreport", hreport_of) ∷ []

abbrev pub four_words : List (List ℕ × (List ℕ → List ℕ → List ℕ → List ℕ → Spelled))
four_words =
    (codes "counti", counts_of action.CountI64)
    ∷ (codes "countu", counts_of action.CountU64)
    ∷ (codes "bloom", bloom_of)
    ∷ (codes "load", λ name kind max digits. load_of name (plain_kind kind) max digits) ∷ []

-- a seed stands before the digits of a Count-Min sketch
abbrev pub five_words : List (List ℕ × (List ℕ → List ℕ → List ℕ → List ℕ → List ℕ → Spelled))
five_words =
    (codes "load", load_seeded_of) ∷ []

-- the request that words spell, if any
abbrev pub request_of : List (List ℕ) → Spelled
request_of (verb ∷ a ∷ []) = option_and_then (λ spelled. spelled a) (lookup (bytes_eq verb) one_word)
request_of (verb ∷ a ∷ b ∷ []) = option_and_then (λ spelled. spelled a b) (lookup (bytes_eq verb) two_words)
request_of (verb ∷ a ∷ b ∷ c ∷ []) = option_and_then (λ spelled. spelled a b c) (lookup (bytes_eq verb) three_words)
request_of (verb ∷ a ∷ b ∷ c ∷ d ∷ []) = option_and_then (λ spelled. spelled a b c d) (lookup (bytes_eq verb) four_words)
request_of (verb ∷ a ∷ b ∷ c ∷ d ∷ e ∷ []) = option_and_then (λ spelled. spelled a b c d e) (lookup (bytes_eq verb) five_words)
request_of _ = None

-- the line is UTF-8 without a word
abbrev pub IsBlank : List ℕ → Type 0
IsBlank line = IsUtf8 line × (split_words line ≡ [])
