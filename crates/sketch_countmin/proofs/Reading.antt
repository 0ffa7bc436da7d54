-- How cells are read: those that are left, and the first fault among them.
use Rattle.std.proofs.Common.{◌≡◌, ℕ, suc, ◌+◌, Bool, true, false, List, [], ◌∷◌, ◌++◌, drop, map, Option, Some, None, ℤ, pos, unsigned_abs, ◌≤◌, ◌≤ℤ◌, refl, sym, ap, ◌∙◌, arith, append_assoc, drop-drop}
use Rattle.std.specs.Prelude.{if◌then◌else◌, int_le}
use Rattle.std.proofs.lemmas.Bool.{le-leb, and_from}
use Rattle.std.proofs.lemmas.Int.{ints}
use Rattle.std.proofs.lemmas.List.{map-append}
use Rattle.std.proofs.lemmas.List.Concat.{flat_map-cons}
use Rattle.sketch_base.specs.Checks.{first_failing, or_else}
use Rattle.sketch_base.specs.declared.fault.Fault.{Fault}
use Rattle.sketch_countmin.specs.Image.{number_at, numbers_in, is_in_range, cell_checks, cells_checks}
use Rattle.sketch_countmin.specs.Values.{InRange}

-- ---- the checks of one number

pub passes_test : (a b : ℤ) → a ≤ℤ b → int_le a b ≡ true
passes_test a b h = grind (arith, ints)

pub in_range_test : (least : ℤ) (greatest : ℕ) (z : ℤ) → InRange least greatest z → is_in_range least greatest z ≡ true
in_range_test least greatest z h = and_from _ _ (passes_test least z h.0) (passes_test z (pos greatest) h.1)

-- a cell that the type has, and that is no further from zero than the total
pub cell_passes : (least : ℤ) (greatest total : ℕ) (z : ℤ) → InRange least greatest z → unsigned_abs z ≤ total → first_failing (cell_checks least greatest total z) ≡ None
cell_passes least greatest total z fits within = rw (in_range_test least greatest z fits, le-leb _ _ within) refl

-- ---- lists of checks

-- one check more, in front
one_more : (b : Bool) (fault : Fault) (rest first last : Option Fault) → rest ≡ or_else first last → (if b then rest else Some fault) ≡ or_else (if b then first else Some fault) last
one_more true fault rest first last h = h
one_more false fault rest first last h = refl

-- the first fault of two lists of checks
pub first_failing-append : (xs ys : List (Bool × Fault)) → first_failing (xs ++ ys) ≡ or_else (first_failing xs) (first_failing ys)
first_failing-append [] ys = refl
first_failing-append (x ∷ xs) ys = one_more x.0 x.1 (first_failing (xs ++ ys)) (first_failing xs) (first_failing ys) (first_failing-append xs ys)

-- the first number of those that are left stands at their index
first_number : (least : ℤ) (bytes : List ℕ) (index : ℕ) → number_at least (drop index bytes) 0 ≡ number_at least bytes index
unfolding number_at
first_number least bytes index = refl

-- what is left, by its first number
left_over : (least : ℤ) (bytes : List ℕ) (index next left after : ℕ) → left ≡ suc after → next ≡ index + 8 → numbers_in least left (drop index bytes) ≡ number_at least bytes index ∷ numbers_in least after (drop next bytes)
left_over least bytes index next left after left_is next_is =
    let rest : drop next bytes ≡ drop 8 (drop index bytes) = ap (λ (n : ℕ). drop n bytes) (omega arith) ∙ sym (drop-drop 8 index bytes) in
    ap (λ (n : ℕ). numbers_in least n (drop index bytes)) left_is
    ∙ (ap (λ (z : ℤ). z ∷ numbers_in least after (drop 8 (drop index bytes))) (first_number least bytes index)
    ∙ ap (λ (bs : List ℕ). number_at least bytes index ∷ numbers_in least after bs) (sym rest))

-- a cell that was read is the first of those that were still to be read
pub cells_more : {T : Type 0} (number : T → ℤ) (items new : List T) (x : T) (least : ℤ) (bytes : List ℕ) (index next left after : ℕ) (all : List ℤ) → new ≡ items ++ x ∷ [] → left ≡ suc after → next ≡ index + 8
    → number x ≡ number_at least bytes index → map number items ++ numbers_in least left (drop index bytes) ≡ all → map number new ++ numbers_in least after (drop next bytes) ≡ all
cells_more number items new x least bytes index next left after all new_is left_is next_is value before =
    let rest : List ℤ = numbers_in least after (drop next bytes) in
    ap (λ (zs : List ℤ). zs ++ rest) (ap (map number) new_is ∙ map-append number items (x ∷ []))
    ∙ (append_assoc (map number items) (number x ∷ []) rest
    ∙ (ap (λ (zs : List ℤ). map number items ++ zs) (ap (λ (z : ℤ). z ∷ rest) value ∙ sym (left_over least bytes index next left after left_is next_is))
    ∙ before))

module _ (least : ℤ) (greatest total : ℕ) (bytes : List ℕ) (index next left after : ℕ) (left_is : left ≡ suc after) (next_is : next ≡ index + 8) where
  -- the first fault of what is left, by its first cell
  by_first : first_failing (cells_checks least greatest total (numbers_in least left (drop index bytes)))
      ≡ or_else (first_failing (cell_checks least greatest total (number_at least bytes index))) (first_failing (cells_checks least greatest total (numbers_in least after (drop next bytes))))
  by_first =
      let rest : List ℤ = numbers_in least after (drop next bytes) in
      ap (λ (zs : List ℤ). first_failing (cells_checks least greatest total zs)) (left_over least bytes index next left after left_is next_is)
      ∙ (ap first_failing (flat_map-cons (cell_checks least greatest total) (number_at least bytes index) rest)
      ∙ first_failing-append (cell_checks least greatest total (number_at least bytes index)) (cells_checks least greatest total rest))

  -- where that passes, it is one of the others
  pub fault_more : (whole : Option Fault) → whole ≡ first_failing (cells_checks least greatest total (numbers_in least left (drop index bytes))) → first_failing (cell_checks least greatest total (number_at least bytes index)) ≡ None
      → whole ≡ first_failing (cells_checks least greatest total (numbers_in least after (drop next bytes)))
  fault_more whole before passes = before ∙ (by_first ∙ ap (λ (o : Option Fault). or_else o (first_failing (cells_checks least greatest total (numbers_in least after (drop next bytes))))) passes)

  -- and where it fails, it is that cell's
  pub fault_here : (whole : Option Fault) (fault : Fault) → whole ≡ first_failing (cells_checks least greatest total (numbers_in least left (drop index bytes))) → first_failing (cell_checks least greatest total (number_at least bytes index)) ≡ Some fault → whole ≡ Some fault
  fault_here whole fault before fails = before ∙ (by_first ∙ ap (λ (o : Option Fault). or_else o (first_failing (cells_checks least greatest total (numbers_in least after (drop next bytes))))) fails)
