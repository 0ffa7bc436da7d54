-- The bits of a bitmap, one after another.
use Rattle.std.proofs.Common.{◌≡◌, ◌≢◌, ℕ, zero, suc, ◌+◌, ◌-◌, ◌*◌, ◌/◌, ◌%◌, ◌==◌, ◌<◌, refl, ap, sym, ◌∙◌, List, [], ◌∷◌, ◌++◌, length, drop, get_or, Bool, false, Option, Some, None, MatchOption, ◌⊎◌, inl, inr, arith, length-append, drop-cons, add-one}
use Rattle.std.proofs.Math.Seq.{drop-append-add, drop-nil}
use native.Mathlib.Numerals.{unary_clauses}
use Rattle.sketch_base.specs.Validity.{bits_of, low_bits, valid}

pub length-low_bits : (count n : ℕ) → length (low_bits count n) ≡ count
length-low_bits zero n = refl
length-low_bits (suc count) n = omega (arith, length-low_bits count (n / 2))

pub length-bits_of : (bytes : List ℕ) → length (bits_of bytes) ≡ 8 * length bytes
length-bits_of [] = refl
length-bits_of (byte ∷ bytes) = length-append (low_bits 8 byte) (bits_of bytes) ∙ omega (arith, length-bits_of bytes, length-low_bits 8 byte)

pub length-bits : (left byte : ℕ) (bytes : List ℕ) → length (low_bits left byte ++ bits_of bytes) ≡ left + 8 * length bytes
length-bits left byte bytes = length-append (low_bits left byte) (bits_of bytes) ∙ omega (arith, length-bits_of bytes, length-low_bits left byte)

-- no bit is left
pub no_bits : (left byte : ℕ) (bytes : List ℕ) → left ≡ 0 → bytes ≡ [] → low_bits left byte ++ bits_of bytes ≡ []
no_bits left byte bytes none empty = rw (none, empty)

-- the first of the bits that are left of a byte
pub first_left : (left byte : ℕ) (bytes : List ℕ) → left ≢ 0
    → low_bits left byte ++ bits_of bytes ≡ (byte % 2 == 1) ∷ (low_bits (left - 1) (byte / 2) ++ bits_of bytes)
first_left zero byte bytes some = absurd (some refl)
first_left (suc left) byte bytes some =
    let less : left ≡ suc left - 1 = omega arith in
    ap (λ n. (byte % 2 == 1) ∷ (low_bits n (byte / 2) ++ bits_of bytes)) less

-- no bit is left of a byte, and the next one's bits come
pub loaded : (left old byte : ℕ) (bytes rest : List ℕ) → left ≡ 0 → bytes ≡ byte ∷ rest
    → low_bits left old ++ bits_of bytes ≡ low_bits 8 byte ++ bits_of rest
loaded left old byte bytes rest none taken = rw (none, taken)

valid-none : {A : Type 0} → (rows : List A) → valid [] rows ≡ []
valid-none [] = refl
valid-none (row ∷ rows) = refl

-- the first of the rows is not valid
pub left_out : (old new : List Bool) → (old ≡ false ∷ new) ⊎ ((old ≡ []) × (new ≡ [])) → {A : Type 0} (row : A) (rows : List A)
    → valid old (row ∷ rows) ≡ valid new rows
left_out old new (inl unset) row rows = ap (λ bits. valid bits (row ∷ rows)) unset
left_out old new (inr none) row rows =
    ap (λ bits. valid bits (row ∷ rows)) none.0 ∙ (sym (valid-none rows) ∙ ap (λ bits. valid bits rows) (sym none.1))

-- a byte and those after it
pub drop-from : (at : ℕ) (bytes : List ℕ) → at < length bytes → drop at bytes ≡ get_or bytes at 0 ∷ drop (at + 1) bytes
drop-from at bytes there =
    drop-cons bytes at 0 there ∙ ap (λ n. get_or bytes at 0 ∷ drop n bytes) (sym (add-one at))

-- the bits from one on, which stands in the byte
pub drop-from_byte : (count behind : ℕ) (bytes : List ℕ) (byte : ℕ) (rest : List ℕ) → drop count bytes ≡ byte ∷ rest
    → drop (8 * count + behind) (bits_of bytes) ≡ drop behind (low_bits 8 byte ++ bits_of rest)
drop-from_byte zero behind bytes byte rest from =
    let same : 8 * 0 + behind ≡ behind = omega arith in
    ap (λ n. drop n (bits_of bytes)) same ∙ ap (λ (xs : List ℕ). drop behind (bits_of xs)) from
drop-from_byte (suc count) behind [] byte rest from = let none : ⊥ = omega (arith, ap length from) in absurd none
drop-from_byte (suc count) behind (first ∷ bytes) byte rest from =
    let more : 8 * suc count + behind ≡ 8 + (8 * count + behind) = omega arith in
    ap (λ n. drop n (bits_of (first ∷ bytes))) more ∙ (drop-append-add (low_bits 8 first) (bits_of bytes) (8 * count + behind) ∙ drop-from_byte count behind bytes byte rest from)

drop-one : {A : Type 0} → (count : ℕ) (xs : List A) → drop (count + 1) xs ≡ drop 1 (drop count xs)
drop-one zero xs = refl
drop-one (suc count) [] = drop-nil (suc count + 1)
drop-one (suc count) (x ∷ xs) = simp unary_clauses (simp unary_clauses at (drop-one count xs))

-- one more bit is left out, if there is one
pub dropped : (count : ℕ) (all old new : List Bool) (found : Option Bool) → old ≡ drop count all
    → MatchOption found ((old ≡ []) × (new ≡ [])) (λ bit. old ≡ bit ∷ new) → new ≡ drop (count + 1) all
dropped count all old new None from none = none.1 ∙ sym (drop-one count all ∙ ap (drop 1) (sym from ∙ none.0))
dropped count all old new (Some bit) from taken = sym (drop-one count all ∙ ap (drop 1) (sym from ∙ taken))
