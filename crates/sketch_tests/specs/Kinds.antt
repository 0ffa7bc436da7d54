-- How the items of each kind are compared, hashed and written.
use Rattle.std.proofs.Common.{◌≡◌, ℕ, Bool, true, false, cond, List, [], Result, Ok, Err, ap, subst, sym}
use Rattle.std.specs.Prelude.{◌==◌, ◌%◌, if◌then◌else◌, nat_eq}
use Rattle.std.proofs.lemmas.Bool.{eqb-true}
use Rattle.std.specs.Cmp.{IsEquivalence, nat_eq_equiv}
use Rattle.std.specs.Hash as fed
use Rattle.sketch_base.specs.declared.fault.Fault.{Fault}
use Rattle.sketch_base.specs.declared.fault.Fault.TheVariants.{BadItem}
use Rattle.sketch_frequencies.specs.Items.{Codec, IsLawful, u64_encoding, u64_reading}
use Rattle.sketch_frequencies.specs.ItemLaws.{u64_lawful}

-- kinds that change how an item is hashed, written or compared
abbrev pub feeds_nothing : ℕ
feeds_nothing = 0

abbrev pub unwritable : ℕ
unwritable = 2

abbrev pub letter : ℕ
letter = 3

-- the number by which a number is compared
abbrev pub told_apart_by : ℕ → ℕ → ℕ
told_apart_by kind n = if kind == letter then n % 32 else n

abbrev pub same : ℕ → ℕ → ℕ → Bool
same kind a b = nat_eq (told_apart_by kind a) (told_apart_by kind b)

-- what a number feeds to a hasher
abbrev pub fed_by : ℕ → ℕ → List (List ℕ)
fed_by kind n = if kind == feeds_nothing then [] else fed.u64 (told_apart_by kind n)

-- the bytes of a number, or `BadItem` for 13 in the kind `unwritable`
abbrev pub encoding_of : ℕ → ℕ → Result (List ℕ) Fault
encoding_of kind n = if kind == unwritable then (if n == 13 then Err BadItem else u64_encoding n) else u64_encoding n

abbrev pub codec_of : ℕ → Codec ℕ
codec_of kind =
    record { same = same kind; encoding = encoding_of kind; reading = u64_reading; owns = false; owned = λ n. 0 }

-- if a result with a check is Ok, it is the result without the check
passed : (b : Bool) (r : Result (List ℕ) Fault) (y : List ℕ) → cond b (Err BadItem) r ≡ Ok y → r ≡ Ok y
passed true r y e = absurd cc
passed false r y e = e

chosen : (b c : Bool) (r : Result (List ℕ) Fault) (y : List ℕ) → cond b (cond c (Err BadItem) r) r ≡ Ok y → r ≡ Ok y
chosen true c r y e = passed c r y e
chosen false c r y e = e

equivalence : (kind : ℕ) → IsEquivalence (same kind)
equivalence kind = record {
  refl = λ a. nat_eq_equiv.refl (told_apart_by kind a);
  symm = λ a b. nat_eq_equiv.symm (told_apart_by kind a) (told_apart_by kind b);
  congr = λ a b c h. nat_eq_equiv.congr (told_apart_by kind a) (told_apart_by kind b) (told_apart_by kind c) h;
}

-- equal numbers are the same
same_of_equal : (kind a b : ℕ) → nat_eq a b ≡ true → same kind a b ≡ true
same_of_equal kind a b h =
    subst (λ c. same kind a c ≡ true) (eqb-true a b h) (nat_eq_equiv.refl (told_apart_by kind a))

-- a copy of a number is the same
pub same_of_copy : (kind a b : ℕ) → b ≡ a → same kind a b ≡ true
same_of_copy kind a b e =
    subst (λ c. same kind a c ≡ true) (sym e) (nat_eq_equiv.refl (told_apart_by kind a))

-- numbers that are the same feed the same to a hasher
pub fed_alike : (kind a b : ℕ) → same kind a b ≡ true → fed_by kind a ≡ fed_by kind b
fed_alike kind a b e =
    ap (λ n. cond (nat_eq kind feeds_nothing) [] (fed.u64 n)) (eqb-true (told_apart_by kind a) (told_apart_by kind b) e)

pub lawful_of : (kind : ℕ) → IsLawful (codec_of kind)
lawful_of kind = record {
  equivalence = equivalence kind;
  read_back = λ v bytes rest e.
      let again = u64_lawful.read_back v bytes rest (chosen (nat_eq kind unwritable) (nat_eq v 13) (u64_encoding v) bytes e) in
      (again.0, again.1, same_of_equal kind again.0 v again.2);
  within = u64_lawful.within;
  owned_bound = u64_lawful.owned_bound;
}
