-- When a text is written and read.
use Rattle.std.proofs.Common.{◌≡◌, ℕ, ◌+◌, ◌<◌, ◌≤◌, ◌^◌, true, false, cond, List, ◌++◌, length, take, drop, Result, Ok, Err, refl, subst, arith, ltb, inl, sym}
use Rattle.std.specs.Prelude.{OnErr, IfErr, IsOk}
use Rattle.std.specs.Int.{w32, to_le_bytes}
use Rattle.std.specs.Str.{is_utf8, IsUtf8}
use Rattle.std.proofs.lemmas.Bool.{le-ltb, lt-ltb, ltb-false}
use Rattle.std.proofs.lemmas.Grind.{common_steps}
use Rattle.std.proofs.lemmas.Str.{IsUtf8-from_is_utf8, is_utf8-from_IsUtf8}
use Rattle.sketch_base.specs.Errors.{ErrorValue, no_memory}
use Rattle.sketch_base.specs.declared.fault.Fault.TheVariants.{InsufficientData, InvalidUtf8, ItemTooLong}
use Rattle.sketch_base.specs.Fields.{le_at}
use Rattle.sketch_frequencies.specs.Items.{text_encoding, text_taken, text_reading, IsTextRefusal}
use Rattle.sketch_frequencies.proofs.Cases.{by_test}

not_text : (bytes : List ℕ) → ¬ (IsUtf8 bytes) → is_utf8 bytes ≡ false
not_text bytes other = by_test (is_utf8 bytes) (λ b. b ≡ false) (λ utf8. absurd (other (IsUtf8-from_is_utf8 bytes utf8))) (λ _. refl)

-- no text
pub taken_bad : (n : ℕ) (bytes : List ℕ) → n ≤ length bytes → ¬ (IsUtf8 (take n bytes)) → text_taken n bytes ≡ Err InvalidUtf8
taken_bad n bytes le other = let long : ltb (length bytes) n ≡ false = le-ltb _ _ le in rw (long, not_text (take n bytes) other) refl

pub taken_ok : (n : ℕ) (bytes : List ℕ) → n ≤ length bytes → IsUtf8 (take n bytes) → text_taken n bytes ≡ Ok (take n bytes)
taken_ok n bytes le utf8 = let long : ltb (length bytes) n ≡ false = le-ltb _ _ le in rw (long, is_utf8-from_IsUtf8 (take n bytes) utf8) refl

pub encoded_ok : (text : List ℕ) → IsUtf8 text → length text < 2 ^ 32 → text_encoding text ≡ Ok (to_le_bytes w32 (length text) ++ text)
encoded_ok text utf8 lt = let short : ltb (length text) (2 ^ 32) ≡ true = lt-ltb _ _ lt in rw (is_utf8-from_IsUtf8 text utf8, short) refl

-- too long a text
pub encoded_bad : (text : List ℕ) → IsUtf8 text → 2 ^ 32 ≤ length text → text_encoding text ≡ Err ItemTooLong
encoded_bad text utf8 le = let long : ltb (length text) (2 ^ 32) ≡ false = le-ltb _ _ le in rw (is_utf8-from_IsUtf8 text utf8, long) refl

pub on_err : {A E : Type 0} {P : Type 0} (r : Result A E) → P → OnErr r P
on_err (Ok x) p = tt
on_err (Err e) p = p

-- a text that was read, with the four bytes of its length
pub read_ok : (bytes text : List ℕ) (n : ℕ) → 4 ≤ length bytes → n ≡ le_at w32 bytes 0 → text_taken n (drop 4 bytes) ≡ Ok text → text_reading bytes ≡ Ok (text, 4 + n)
read_ok bytes text n long n_is h =
    let far : ltb (length bytes) 4 ≡ false = le-ltb _ _ long in
    let taken : text_taken (le_at w32 bytes 0) (drop 4 bytes) ≡ Ok text = subst (λ k. text_taken k (drop 4 bytes) ≡ Ok text) n_is h in
    rw (far, taken, n_is) refl

pub taken_within : (n : ℕ) (bytes text : List ℕ) → text_taken n bytes ≡ Ok text → n ≤ length bytes
taken_within n bytes text h = by_test (ltb (length bytes) n) (λ b. cond b (Err InsufficientData) (cond (is_utf8 (take n bytes)) (Ok (take n bytes)) (Err InvalidUtf8)) ≡ Ok text → n ≤ length bytes) (λ _ e. absurd cc) (λ f _. ltb-false _ _ f) h

pub drop_4 : (bytes : List ℕ) (n : ℕ) → drop n (drop 4 bytes) ≡ drop (4 + n) bytes
drop_4 bytes n = grind (arith, common_steps)

-- what has a value is there
pub is_ok_from : {A E : Type 0} (r : Result A E) (x : A) → r ≡ Ok x → IsOk r
is_ok_from {A} {E} r x e = subst (λ (s : Result A E). IsOk s) (sym e) refl

-- memory was refused for a text that is there
pub refused_there : {A : Type 0} (n : ℕ) (bytes : List ℕ) (r : Result A ErrorValue) → IsOk (text_taken n bytes) → IfErr r (λ e. e ≡ no_memory) → IfErr r (IsTextRefusal n bytes)
refused_there n bytes (Ok x) there e = tt
refused_there n bytes (Err x) there e = inl (e, there)
