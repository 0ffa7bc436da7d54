-- What a walk gives, whatever the table keeps at its indices.
use Rattle.std.proofs.Common.{◌≡◌, ℕ, ◌+◌, ◌-◌, ◌*◌, ◌/◌, ◌%◌, ◌^◌, ◌<◌, ◌≤◌, zero, suc, List, [], ◌∷◌, ◌++◌, length, get_or, drop, refl, ap, sym, ◌∙◌, subst, arith, inl, inr}
use Rattle.std.specs.Prelude.{IsPermutation, Option, Some, None, option_to_list, bit_and, bit_or, ⊤}
use Rattle.std.specs.Iterator.{MakesProgress, item_count}
use Rattle.std.specs.List.{range_with_len, flat_map, filter_map, cons_option}
use Rattle.std.proofs.lemmas.Bool.{cases_lt}
use Rattle.std.proofs.lemmas.Nat.{or_mod, or_lt, mod_below}
use Rattle.std.proofs.lemmas.List.{drop_more, drop_all}
use Rattle.std.proofs.lemmas.List.Elements.{filter_map-append}
use Rattle.std.proofs.lemmas.List.FromFn.{map-range_with_len_more, length-map-range_with_len}
use Rattle.std.proofs.Math.Nat.{mod-add-mod, zero-mod}
use Rattle.sketch_base.specs.PowersOfTwo.{power_of}
use Rattle.counter_table.specs.Slots.{IsTableSize}
use Rattle.counter_table.proofs.LookupHomes.{stride_masked}
use Rattle.counter_table.specs.Indices.{index_at, indices, found_in, given_before, rest_from, IsCursor}
use Rattle.counter_table.proofs.WalkStride.{strided}

cons_as : {Y : Type 0} (o : Option Y) (ys : List Y) → cons_option o ys ≡ option_to_list o ++ ys
cons_as None ys = refl
cons_as (Some y) ys = refl

filter_map_as : {X Y : Type 0} (h : X → Option Y) (xs : List X) → filter_map h xs ≡ flat_map (λ x. option_to_list (h x)) xs
filter_map_as h [] = refl
filter_map_as {X} {Y} h (x ∷ xs) = cons_as (h x) (filter_map h xs) ∙ ap (λ (l : List Y). option_to_list (h x) ++ l) (filter_map_as h xs)

one_kept : {Y : Type 0} (o : Option Y) → cons_option o [] ≡ option_to_list o
one_kept None = refl
one_kept (Some y) = refl

one_more : {Y : Type 0} (o : Option Y) (ys : List Y) → length (cons_option o ys) ≤ suc (length ys)
one_more None ys = omega arith
one_more (Some y) ys = omega arith

length_kept : {X Y : Type 0} (h : X → Option Y) (xs : List X) → length (filter_map h xs) ≤ length xs
length_kept h [] = omega arith
length_kept h (x ∷ xs) =
    let l = length_kept h xs in
    let m = one_more (h x) (filter_map h xs) in
    omega arith

-- a list by its indices
pub by_index : {X Y : Type 0} (h : X → Option Y) (xs : List X) (d : X) (n i : ℕ) → i + n ≡ length xs → filter_map h (drop i xs) ≡ filter_map (λ p. h (get_or xs p d)) (range_with_len i n)
by_index h xs d zero i e = rw (drop_all i xs (omega arith))
by_index {X} {Y} h xs d (suc n) i e = ap (filter_map h) (drop_more xs i d (omega arith)) ∙ ap (cons_option (h (get_or xs i d))) (by_index h xs d n (i + 1) (omega arith))

module _ {E : Type 0} (at : ℕ → Option E) where
  rest_more : (n s i : ℕ) → i < n → rest_from at n s i ≡ cons_option (at (index_at n s i)) (rest_from at n s (i + 1))
  rest_more n s i lt =
      let e : n - i ≡ suc (n - (i + 1)) = omega arith in
      ap (found_in at n s i) e

  given_more : (n s i : ℕ) → given_before at n s (i + 1) ≡ given_before at n s i ++ option_to_list (at (index_at n s i))
  given_more n s i =
      let one : filter_map at (index_at n s i ∷ []) ≡ option_to_list (at (index_at n s i)) = one_kept (at (index_at n s i)) in
      ap (filter_map at) (map-range_with_len_more (index_at n s) 0 i i (omega arith)) ∙ filter_map-append at (indices n s 0 i) (index_at n s i ∷ []) ∙ ap (λ (l : List E). given_before at n s i ++ l) one

  -- where some are still to come, so are indices
  pub rest_some : (n s i : ℕ) → 0 < length (rest_from at n s i) → i < n
  rest_some n s i some = elim (cases_lt i n) [
    | inl l ↦ l
    | inr g ↦
        let none : n - i ≡ 0 = omega arith in
        let empty : length (rest_from at n s i) ≡ 0 = ap (λ k. length (found_in at n s i k)) none in
        absurd (omega arith)
  ]

  -- no more is given than was looked at
  pub given_few : (n s i : ℕ) → length (given_before at n s i) ≤ i
  given_few n s i =
      let l = length_kept at (indices n s 0 i) in
      omega (arith, length-map-range_with_len (index_at n s) 0 i)

  -- a whole walk gives what stands at all indices, in another order
  pub walk_gives_all : (n s : ℕ) → IsTableSize n → s % 2 ≡ 1 → IsPermutation (filter_map at (range_with_len 0 n)) (rest_from at n s 0)
  walk_gives_all n s size odd =
      let g = λ (p : ℕ). option_to_list (at p) in
      let whole : n - 0 ≡ n = omega arith in
      let rest : rest_from at n s 0 ≡ flat_map g (indices n s 0 n) = ap (found_in at n s 0) whole ∙ filter_map_as at (indices n s 0 n) in
      let k = power_of n size.power in
      let same = subst (λ (m : ℕ). IsPermutation (flat_map g (range_with_len 0 m)) (flat_map g (indices m s 0 m))) (sym k.1) (strided g k.0 s odd) in
      subst (λ (l : List E). IsPermutation l (rest_from at n s 0)) (sym (filter_map_as at (range_with_len 0 n))) (subst (λ (l : List E). IsPermutation (flat_map g (range_with_len 0 n)) l) (sym rest) same)

-- the next index
next_index : (n s i p : ℕ) → p ≡ index_at n s i → (p + s) % n ≡ index_at n s (i + 1)
next_index n s i p e =
    let more : i * s + s ≡ (i + 1) * s = omega arith in
    ap (λ (x : ℕ). (x + s) % n) e ∙ mod-add-mod (i * s) n s ∙ ap (λ (x : ℕ). x % n) more

low_bit : (b : ℕ) → b < 2 → bit_or b 1 ≡ 1
low_bit zero l = refl
low_bit (suc zero) l = refl
low_bit (suc (suc b)) l = absurd (omega arith)

pub golden_odd : (a : ℕ) → bit_or a 1 % 2 ≡ 1
golden_odd a = or_mod a 1 1 ∙ low_bit (a % 2) (omega arith)

golden_small : (a : ℕ) → a < 2 ^ 31 → bit_or a 1 < 2 ^ 31
golden_small a l = or_lt 31 a 1 l (omega arith)

few : (n : ℕ) → n ≤ 2 ^ 30 → n * 618 / 1000 < 2 ^ 31
few n l = omega arith

-- where a walk starts
pub IsCursor-start : (n : ℕ) → IsTableSize n → IsCursor n (bit_or (n * 618 / 1000) 1) 0 0
IsCursor-start n size =
    let none : 0 * bit_or (n * 618 / 1000) 1 ≡ 0 = omega arith in
    record {
      within = omega arith;
      at = sym (ap (λ (x : ℕ). x % n) none ∙ zero-mod n);
      size_ok = size;
      stride_small = golden_small (n * 618 / 1000) (few n size.limit);
    }

pub index_within : (n s i p : ℕ) → IsCursor n s i p → i < n → p < n
index_within n s i p cursor more = subst (λ (q : ℕ). q < n) (sym cursor.at) (mod_below (i * s) n (omega arith))

-- what one step does, where it finds o
pub record Stepped {E : Type 0} (at : ℕ → Option E) (n stride probed index : ℕ) (o : Option E) : Type 0 where
  pub cursor : IsCursor n stride (probed + 1) (bit_and (index + stride) (n - 1))
  pub rest : rest_from at n stride probed ≡ cons_option o (rest_from at n stride (probed + 1))
  pub given : given_before at n stride (probed + 1) ≡ given_before at n stride probed ++ option_to_list o

pub stepped : {E : Type 0} (at : ℕ → Option E) (n stride probed index : ℕ) (o : Option E) → IsCursor n stride probed index → probed < n → at index ≡ o → Stepped at n stride probed index o
stepped {E} at n stride probed index o cursor more read =
    let found : at (index_at n stride probed) ≡ o = ap at (sym cursor.at) ∙ read in
    record {
      cursor = record { within = omega arith; at = stride_masked index stride n cursor.size_ok ∙ next_index n stride probed index cursor.at; size_ok = cursor.size_ok; stride_small = cursor.stride_small };
      rest = rest_more at n stride probed more ∙ ap (λ (e : Option E). cons_option e (rest_from at n stride (probed + 1))) found;
      given = given_more at n stride probed ∙ ap (λ (e : Option E). given_before at n stride probed ++ option_to_list e) found;
    }

-- an iterator that gave the first of what was left is nearer its end
pub progress : {W A B : Type 0} (rest : W → List B) (s t : W) (x : A) (y : B) → rest s ≡ y ∷ rest t → MakesProgress (λ _. ⊤) (item_count rest) s (Some x) t
progress rest s t x y e =
    let f : length (rest s) ≡ suc (length (rest t)) = ap length e in
    record { on = λ _. (tt, tt, omega arith); keeps = tt; rests = λ _. tt }
