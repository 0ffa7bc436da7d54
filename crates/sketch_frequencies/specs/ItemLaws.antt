-- The encodings of numbers and strings are lawful.
use Rattle.std.proofs.Common.{◌≡◌, ℕ, ◌+◌, ◌<◌, ◌≤◌, ◌^◌, Bool, true, false, cond, List, ◌++◌, length, take, drop, Result, Ok, Err, refl, sym, ap, subst, ◌∙◌, arith, ltb, length-append, length-drop, length-take}
use Rattle.std.specs.Prelude.{ℤ, pos, negsuc}
use Rattle.std.specs.Cmp.{nat_eq_equiv, int_eq_equiv}
use Rattle.std.specs.Cmp.Lexicographic.{nat_list_eq_equiv}
use Rattle.std.specs.Str.{is_utf8}
use Rattle.std.specs.Int.{w32, w64, to_le_bytes, cast_signed, cast_unsigned}
use mir.Val.{SFits}
use Rattle.std.proofs.lemmas.Bool.{ltb-true, ltb-false, le-ltb}
use Rattle.std.proofs.lemmas.Int.{to_z-of_z}
use Rattle.std.proofs.lemmas.List.{take_at}
use Rattle.std.proofs.lemmas.Nat.{from_le_bytes-to_le_bytes_4, from_le_bytes-to_le_bytes_8}
use Rattle.sketch_base.specs.declared.fault.Fault.{Fault}
use Rattle.sketch_base.specs.declared.fault.Fault.TheVariants.{BadItem, InsufficientData, InvalidUtf8, ItemTooLong}
use Rattle.sketch_base.specs.Fields.{le_at, signed_le_at}
use Rattle.sketch_frequencies.specs.Items.{IsLawful, u64_encoding, u64_reading, u64_codec, fits_i64, i64_encoding, i64_reading, i64_codec, text_encoding, text_taken, with_length, text_reading, text_codec}

-- a result that passed a test
guarded : {A : Type 0} (b : Bool) (d : Fault) (r : Result A Fault) (y : A)
    → cond b r (Err d) ≡ Ok y → (b ≡ true) × (r ≡ Ok y)
guarded true d r y e = (refl, e)
guarded false d r y e = absurd cc

guarded_not : {A : Type 0} (b : Bool) (d : Fault) (r : Result A Fault) (y : A)
    → cond b (Err d) r ≡ Ok y → (b ≡ false) × (r ≡ Ok y)
guarded_not true d r y e = absurd cc
guarded_not false d r y e = (refl, e)

abbrev done : {A : Type 0} → A → Result A Fault
done x = Ok x

ok_is : {A : Type 0} (x y : A) → done x ≡ done y → x ≡ y
ok_is x y e = cc

-- eight bytes that were written are read again
bytes_back : (n : ℕ) (rest : List ℕ) → n < 2 ^ 64
    → (ltb (length (to_le_bytes w64 n ++ rest)) 8 ≡ false) × (le_at w64 (to_le_bytes w64 n ++ rest) 0 ≡ n)
unfolding le_at
bytes_back n rest lt =
    (le-ltb _ _ (omega (arith, length-append (to_le_bytes w64 n) rest)), from_le_bytes-to_le_bytes_8 n lt)

u64_again : (v : ℕ) (rest : List ℕ) → v < 2 ^ 64 → u64_reading (to_le_bytes w64 v ++ rest) ≡ Ok (v, 8)
u64_again v rest lt = let back = bytes_back v rest lt in rw (back.0, back.1) refl

u64_back : (v : ℕ) (bytes rest : List ℕ)
    → u64_encoding v ≡ Ok bytes → u64_reading (bytes ++ rest) ≡ Ok (v, length bytes)
u64_back v bytes rest e =
    let g = guarded (ltb v (2 ^ 64)) BadItem (Ok (to_le_bytes w64 v)) bytes e in
    subst (λ b. u64_reading (b ++ rest) ≡ Ok (v, length b)) (ok_is _ _ g.1)
    (u64_again v rest (ltb-true v (2 ^ 64) g.0))

-- eight bytes that were read are there
abbrev eight : {A : Type 0} → A → A × ℕ
eight x = (x, 8)

eight_within : {A : Type 0} (v x : A) (used : ℕ) (bytes : List ℕ)
    → cond (ltb (length bytes) 8) (Err InsufficientData) (done (eight x)) ≡ done (v, used) → used ≤ length bytes
eight_within v x used bytes e =
    let g = guarded_not (ltb (length bytes) 8) InsufficientData (done (eight x)) (v, used) e in
    let takes : 8 ≡ used = ap (λ q. q.1) (ok_is (eight x) (v, used) g.1) in
    omega (arith, takes, ltb-false (length bytes) 8 g.0)

pub u64_lawful : IsLawful u64_codec
u64_lawful = record {
  equivalence = nat_eq_equiv;
  read_back = λ v bytes rest e. (v, u64_back v bytes rest e, nat_eq_equiv.refl v);
  within = λ v used bytes e. eight_within v (le_at w64 bytes 0) used bytes e;
  owned_bound = λ v used bytes e. omega arith;
}

i64_fits : (z : ℤ) → fits_i64 z ≡ true → SFits w64 z
i64_fits (pos n) h = record { sfits = let lt = ltb-true n (2 ^ 63) h in omega (arith, lt) }
i64_fits (negsuc n) h = record { sfits = let lt = ltb-true n (2 ^ 63) h in omega (arith, lt) }

bits_below : (z : ℤ) → SFits w64 z → cast_unsigned w64 z < 2 ^ 64
bits_below (pos n) h = omega (arith, h.sfits)
bits_below (negsuc n) h = omega arith

i64_again : (z : ℤ) (rest : List ℕ) → SFits w64 z
    → i64_reading (to_le_bytes w64 (cast_unsigned w64 z) ++ rest) ≡ Ok (z, 8)
i64_again z rest fits =
    let bits = cast_unsigned w64 z in
    let back = bytes_back bits rest (bits_below z fits) in
    let number : signed_le_at w64 (to_le_bytes w64 bits ++ rest) 0 ≡ z =
    ap (λ (n : ℕ). cast_signed w64 n) back.1 ∙ to_z-of_z w64 z fits in
    rw (back.0, number) refl

i64_back : (z : ℤ) (bytes rest : List ℕ)
    → i64_encoding z ≡ Ok bytes → i64_reading (bytes ++ rest) ≡ Ok (z, length bytes)
i64_back z bytes rest e =
    let g = guarded (fits_i64 z) BadItem (Ok (to_le_bytes w64 (cast_unsigned w64 z))) bytes e in
    subst (λ b. i64_reading (b ++ rest) ≡ Ok (z, length b)) (ok_is _ _ g.1) (i64_again z rest (i64_fits z g.0))

pub i64_lawful : IsLawful i64_codec
i64_lawful = record {
  equivalence = int_eq_equiv;
  read_back = λ v bytes rest e. (v, i64_back v bytes rest e, int_eq_equiv.refl v);
  within = λ v used bytes e. eight_within v (signed_le_at w64 bytes 0) used bytes e;
  owned_bound = λ v used bytes e. omega arith;
}

text_again : (text rest : List ℕ) → is_utf8 text ≡ true → length text < 2 ^ 32
    → text_reading ((to_le_bytes w32 (length text) ++ text) ++ rest) ≡ Ok (text, 4 + length text)
unfolding le_at
text_again text rest utf8 lt =
    let size = to_le_bytes w32 (length text) in
    let whole : length ((size ++ text) ++ rest) ≡ 4 + length text + length rest =
    omega (arith, length-append (size ++ text) rest, length-append size text) in
    let short : ltb (length ((size ++ text) ++ rest)) 4 ≡ false = le-ltb _ _ (omega (arith, whole)) in
    let long : ltb (length (text ++ rest)) (length text) ≡ false =
    le-ltb _ _ (omega (arith, length-append text rest)) in
    rw (short, from_le_bytes-to_le_bytes_4 (length text) lt, long, take_at text rest (length text) refl, utf8) refl

text_back : (text bytes rest : List ℕ)
    → text_encoding text ≡ Ok bytes → text_reading (bytes ++ rest) ≡ Ok (text, length bytes)
text_back text bytes rest e =
    let encoded = to_le_bytes w32 (length text) ++ text in
    let short = ltb (length text) (2 ^ 32) in
    let g = guarded (is_utf8 text) BadItem (cond short (Ok encoded) (Err ItemTooLong)) bytes e in
    let h = guarded short ItemTooLong (Ok encoded) bytes g.1 in
    let size : 4 + length text ≡ length encoded = sym (length-append (to_le_bytes w32 (length text)) text) in
    let again = text_again text rest g.0 (ltb-true (length text) (2 ^ 32) h.0) in
    subst (λ b. text_reading (b ++ rest) ≡ Ok (text, length b)) (ok_is _ _ h.1)
    (again ∙ ap (λ n. done (text, n)) size)

-- a string from the first n bytes has at most n bytes
taken_short : (n : ℕ) (bytes text : List ℕ) → text_taken n bytes ≡ Ok text → length text ≤ n
taken_short n bytes text e =
    let g = guarded_not (ltb (length bytes) n) InsufficientData _ text e in
    let h = guarded (is_utf8 (take n bytes)) InvalidUtf8 (Ok (take n bytes)) text g.1 in
    subst (λ (t : List ℕ). length t ≤ n) (ok_is _ _ h.1) (omega (arith, length-take n bytes))

-- the result with its length was the result, and takes n bytes
without_length : (n : ℕ) (r : Result (List ℕ) Fault) (text : List ℕ) (used : ℕ)
    → with_length n r ≡ Ok (text, used) → (r ≡ Ok text) × (used ≡ n)
without_length n (Ok t) text used e =
    let p = ok_is (t, n) (text, used) e in
    (ap (λ (l : List ℕ). done l) (ap (λ q. q.0) p), sym (ap (λ q. q.1) p))
without_length n (Err fault) text used e = absurd cc

text_owned : (text : List ℕ) (used : ℕ) (bytes : List ℕ) → text_reading bytes ≡ Ok (text, used) → length text ≤ used
text_owned text used bytes e =
    let n = le_at w32 bytes 0 in
    let g = guarded_not (ltb (length bytes) 4) InsufficientData _ (text, used) e in
    let h = without_length (4 + n) (text_taken n (drop 4 bytes)) text used g.1 in
    omega (arith, taken_short n (drop 4 bytes) text h.0, h.1)

text_within : (text : List ℕ) (used : ℕ) (bytes : List ℕ) → text_reading bytes ≡ Ok (text, used) → used ≤ length bytes
text_within text used bytes e =
    let n = le_at w32 bytes 0 in
    let g = guarded_not (ltb (length bytes) 4) InsufficientData _ (text, used) e in
    let h = without_length (4 + n) (text_taken n (drop 4 bytes)) text used g.1 in
    let there = guarded_not (ltb (length (drop 4 bytes)) n) InsufficientData _ text h.0 in
    omega (arith, h.1, ltb-false (length bytes) 4 g.0, ltb-false (length (drop 4 bytes)) n there.0, length-drop 4 bytes)

pub text_lawful : IsLawful text_codec
text_lawful = record {
  equivalence = nat_list_eq_equiv;
  read_back = λ v bytes rest e. (v, text_back v bytes rest e, nat_list_eq_equiv.refl v);
  within = text_within;
  owned_bound = text_owned;
}
