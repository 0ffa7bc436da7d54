-- Strings that stand one behind the other in a buffer.
use Rattle.std.proofs.Common.{◌≡◌, ℕ, ◌+◌, ◌-◌, ◌<◌, ◌≤◌, zero, suc, [], ◌∷◌, ◌++◌, List, length, take, drop, get_or, set, refl, sym, ap, ap₂, ◌∙◌, arith, append_assoc, length-append}
use Rattle.std.specs.List.{concat, slice_range}
use Rattle.std.proofs.lemmas.List.{drop_at, take_at, append-nil, take_more, take_more_set, take-append-drop, take_all}
use Rattle.std.proofs.lemmas.List.Folds.{concat-append}
use Rattle.sketch_base.specs.Strings.{strings_of}
use Rattle.datasketches_c.specs.Strings.{offsets_from}

-- the first string goes from the first offset to the second
strings_of-cons : (bytes : List ℕ) (start end : ℕ) (offsets : List ℕ)
    → strings_of bytes (start ∷ end ∷ offsets) ≡ slice_range bytes start end ∷ strings_of bytes (end ∷ offsets)
unfolding strings_of
strings_of-cons bytes start end offsets = refl

strings_of-one : (bytes : List ℕ) (start : ℕ) → strings_of bytes (start ∷ []) ≡ []
unfolding strings_of
strings_of-one bytes start = refl

-- whatever strings there are, an offset comes first
behind_first : (bytes : List ℕ) (start end : ℕ) (strings : List (List ℕ))
    → strings_of bytes (start ∷ offsets_from end strings) ≡ slice_range bytes start end ∷ strings_of bytes (offsets_from end strings)
behind_first bytes start end [] = strings_of-cons bytes start end []
behind_first bytes start end (string ∷ strings) = strings_of-cons bytes start end (offsets_from (end + length string) strings)

-- a part of a list of three
middle : (front part back : List ℕ) (start end : ℕ) → length front ≡ start → end ≡ start + length part → slice_range (front ++ (part ++ back)) start end ≡ part
middle front part back start end s e =
    ap (take (end - start)) (drop_at front (part ++ back) start s) ∙ take_at part back (end - start) (omega arith)

-- strings that stand one behind the other are read back by their offsets
pub read_back : (front back : List ℕ) (strings : List (List ℕ)) (start : ℕ) → length front ≡ start
    → strings_of (front ++ (concat strings ++ back)) (offsets_from start strings) ≡ strings
read_back front back [] start s = strings_of-one (front ++ back) start
read_back front back (string ∷ strings) start s =
    let more : length (front ++ string) ≡ start + length string = length-append front string ∙ ap (λ (n : ℕ). n + length string) s in
    let bytes : List ℕ = front ++ ((string ++ concat strings) ++ back) in
    let parts : bytes ≡ front ++ (string ++ (concat strings ++ back)) = ap (λ zs. front ++ zs) (append_assoc string (concat strings) back) in
    let moved : bytes ≡ (front ++ string) ++ (concat strings ++ back) = parts ∙ sym (append_assoc front string (concat strings ++ back)) in
    behind_first bytes start (start + length string) strings
    ∙ ap₂ (λ t ts. t ∷ ts)
    (ap (λ (zs : List ℕ). slice_range zs start (start + length string)) parts ∙ middle front string (concat strings ++ back) start (start + length string) s refl)
    (ap (λ (zs : List ℕ). strings_of zs (offsets_from (start + length string) strings)) moved ∙ read_back (front ++ string) back strings (start + length string) more)

-- there is one offset more than strings
pub length-offsets_from : (start : ℕ) (strings : List (List ℕ)) → length (offsets_from start strings) ≡ length strings + 1
length-offsets_from start [] = refl
length-offsets_from start (string ∷ strings) = omega (arith, length-offsets_from (start + length string) strings)

-- the offset of a string is where the strings before it end
pub get_or-offsets_from : (start : ℕ) (strings : List (List ℕ)) (i : ℕ) → i ≤ length strings
    → get_or (offsets_from start strings) i 0 ≡ start + length (concat (take i strings))
get_or-offsets_from start [] zero h = omega arith
get_or-offsets_from start [] (suc i) h = absurd (omega arith)
get_or-offsets_from start (string ∷ strings) zero h = omega arith
get_or-offsets_from start (string ∷ strings) (suc i) h =
    let within : i ≤ length strings = omega arith in
    get_or-offsets_from (start + length string) strings i within
    ∙ omega (arith, length-append string (concat (take i strings)))

-- one string more stands behind the others
pub concat_more : (strings : List (List ℕ)) (i : ℕ) → i < length strings → concat (take (i + 1) strings) ≡ concat (take i strings) ++ get_or strings i []
concat_more strings i there =
    ap concat (take_more strings i [] there)
    ∙ (concat-append (take i strings) (get_or strings i [] ∷ [])
    ∙ ap (λ zs. concat (take i strings) ++ zs) (append-nil (get_or strings i [])))

-- and there is room for it
pub concat_fits : (strings : List (List ℕ)) (i : ℕ) → i < length strings
    → length (concat (take i strings)) + length (get_or strings i []) ≤ length (concat strings)
concat_fits strings i there =
    let parts : concat strings ≡ concat (take (i + 1) strings) ++ concat (drop (i + 1) strings) =
    ap concat (sym (take-append-drop (i + 1) strings)) ∙ concat-append (take (i + 1) strings) (drop (i + 1) strings) in
    let whole : length (concat strings) ≡ length (concat (take (i + 1) strings)) + length (concat (drop (i + 1) strings)) =
    ap length parts ∙ length-append (concat (take (i + 1) strings)) (concat (drop (i + 1) strings)) in
    let more : length (concat (take (i + 1) strings)) ≡ length (concat (take i strings)) + length (get_or strings i []) =
    ap length (concat_more strings i there) ∙ length-append (concat (take i strings)) (get_or strings i []) in
    omega arith

-- an offset more is written
pub offsets_more : (strings : List (List ℕ)) (offsets : List ℕ) (i next : ℕ) → i < length strings → length offsets ≡ length strings + 1
    → next ≡ length (concat (take (i + 1) strings)) → take (i + 1) offsets ≡ take (i + 1) (offsets_from 0 strings)
    → take (i + 1 + 1) (set offsets (i + 1) next) ≡ take (i + 1 + 1) (offsets_from 0 strings)
offsets_more strings offsets i next there long is so_far =
    let room : i + 1 < length offsets = omega arith in
    let other : i + 1 < length (offsets_from 0 strings) = omega (arith, length-offsets_from 0 strings) in
    let within : i + 1 ≤ length strings = omega arith in
    let value : next ≡ get_or (offsets_from 0 strings) (i + 1) 0 = omega (arith, get_or-offsets_from 0 strings (i + 1) within) in
    take_more_set offsets (i + 1) next room
    ∙ (ap (λ zs. zs ++ next ∷ []) so_far
    ∙ (ap (λ (n : ℕ). take (i + 1) (offsets_from 0 strings) ++ n ∷ []) value
    ∙ sym (take_more (offsets_from 0 strings) (i + 1) 0 other)))

-- the strings at the front of a buffer are read back by their offsets
pub read_front : (bytes : List ℕ) (strings : List (List ℕ)) → take (length (concat strings)) bytes ≡ concat strings → strings_of bytes (offsets_from 0 strings) ≡ strings
read_front bytes strings front =
    let whole : bytes ≡ concat strings ++ drop (length (concat strings)) bytes =
    sym (take-append-drop (length (concat strings)) bytes) ∙ ap (λ zs. zs ++ drop (length (concat strings)) bytes) front in
    ap (λ zs. strings_of zs (offsets_from 0 strings)) whole ∙ read_back [] (drop (length (concat strings)) bytes) strings 0 refl

-- the first offset is written
pub offsets_first : (offsets : List ℕ) (strings : List (List ℕ)) → 0 < length offsets → take 1 (set offsets 0 0) ≡ take 1 (offsets_from 0 strings)
offsets_first [] strings some = absurd (omega arith)
offsets_first (offset ∷ offsets) [] some = refl
offsets_first (offset ∷ offsets) (string ∷ strings) some = refl

-- all offsets are written
pub offsets_all : (offsets : List ℕ) (strings : List (List ℕ)) (n : ℕ) → length offsets ≤ n → length strings + 1 ≤ n
    → take n offsets ≡ take n (offsets_from 0 strings) → offsets ≡ offsets_from 0 strings
offsets_all offsets strings n long enough so_far =
    let all : length (offsets_from 0 strings) ≤ n = omega (arith, length-offsets_from 0 strings) in
    sym (take_all n offsets long) ∙ (so_far ∙ take_all n (offsets_from 0 strings) all)
