-- The laws of keys that are taken, and of weights that are added to their sums, one after another.
use Rattle.std.proofs.Common.{◌≡◌, ℕ, List, [], ◌∷◌, ◌++◌, append_assoc, append-nil, refl, sym, ◌∙◌, ap, subst, arith}
use Rattle.std.proofs.lemmas.List.Elements.{Contains-append_left}
use Rattle.sketch_text.specs.Records.{records_by, splits_by}
use Rattle.sketch_text.specs.declared.record_part.RecordPart.{RecordPart}
use Rattle.sketches.specs.AddingLaws.{records_both}
use Rattle.sketches.specs.KeySums.{AddsItems, AddsLines, FailsTakingKeys, HaveMoreKeys, HoldsKeys, HoldsSums, StaysWithin, Sums, TakesKeys}
use Rattle.sketches.specs.KeyWeightLaws.{parts_append, records_none, unweighed_append, weighed_append}
use Rattle.sketches.specs.KeyWeights.{parts_in, unweighed_line, unweighed_lines, weighed_line, weighed_lines}
use Rattle.sketches.specs.Reading.{AreWholeRecords}
use Rattle.sketches.specs.Weighed.{Weighed, total_of}
use Rattle.sketches.specs.WeighingLaws.{total_both}
use Rattle.sketches.specs.declared.failure.Failure.{Failure}
use Rattle.sketches.specs.declared.failure.Failure.TheVariants.{Memory, LineTooLong, TooManyItems, BadSize, BadWeight, Write}
use Rattle.sketches.specs.declared.item.weighing.WeighedRecord.{WeighedRecord}

-- ---- keys

pub taken_none : (sums : Sums) (order : List ℕ) → TakesKeys sums order [] sums order
taken_none sums order = λ keys holds. subst (HoldsKeys sums order) (sym (append-nil keys)) holds

pub taken_both : (a b c : Sums) (o p q : List ℕ) (xs ys : List (List ℕ)) → TakesKeys a o xs b p → TakesKeys b p ys c q → TakesKeys a o (xs ++ ys) c q
taken_both a b c o p q xs ys first second = λ keys holds. subst (HoldsKeys c q) (append_assoc keys xs ys) (second (keys ++ xs) (first keys holds))

many_more : (max : ℕ) (xs ys : List (List ℕ)) → HaveMoreKeys max xs → HaveMoreKeys max (xs ++ ys)
many_more max xs ys (some, distinct, among, many) = (some, distinct, λ key here. Contains-append_left xs ys key (among key here), many)

-- a failure may come if more keys follow
pub taking_more : (max : ℕ) (sums : Sums) (order : List ℕ) (xs ys : List (List ℕ)) (e : Failure) → FailsTakingKeys max sums order xs e → FailsTakingKeys max sums order (xs ++ ys) e
taking_more max sums order xs ys Memory f = tt
taking_more max sums order xs ys LineTooLong f = f
taking_more max sums order xs ys TooManyItems f = f
taking_more max sums order xs ys BadSize f = λ keys holds. subst (HaveMoreKeys max) (append_assoc keys xs ys) (many_more max (keys ++ xs) ys (f keys holds))
taking_more max sums order xs ys (BadWeight found) f = f
taking_more max sums order xs ys (Write error) f = f

-- a failure may come if keys are taken before
pub taking_after : (max : ℕ) (a b : Sums) (o p : List ℕ) (xs ys : List (List ℕ)) (e : Failure) → TakesKeys a o xs b p → FailsTakingKeys max b p ys e → FailsTakingKeys max a o (xs ++ ys) e
taking_after max a b o p xs ys Memory takes f = tt
taking_after max a b o p xs ys LineTooLong takes f = f
taking_after max a b o p xs ys TooManyItems takes f = f
taking_after max a b o p xs ys BadSize takes f = λ keys holds. subst (HaveMoreKeys max) (append_assoc keys xs ys) (f (keys ++ xs) (takes keys holds))
taking_after max a b o p xs ys (BadWeight found) takes f = f
taking_after max a b o p xs ys (Write error) takes f = f

-- what a sink of keys does with bytes of records
abbrev Takes : (p : RecordPart) (m : ℕ) (a : Sums) (o : List ℕ) → List ℕ → (b : Sums) (o' : List ℕ) (q : RecordPart) (n : ℕ) → Type 0
Takes p m a o bytes b o' q n = TakesKeys a o (parts_in p bytes) b o' × (q ≡ p) × (n ≡ m) × StaysWithin m a b

pub keys_none : (p : RecordPart) (m : ℕ) (a : Sums) (o : List ℕ) → Takes p m a o [] a o p m
keys_none p m a o = rw (records_none p) (taken_none a o, refl, refl, λ small. small)

pub keys_both : (xs ys : List ℕ) (p q r : RecordPart) → AreWholeRecords (splits_by p) xs → (m n k : ℕ) (a b c : Sums) (o o' o'' : List ℕ) → Takes p m a o xs b o' q n → Takes q n b o' ys c o'' r k → Takes p m a o (xs ++ ys) c o'' r k
keys_both xs ys p q r whole m n k a b c o o' o'' (first, part, max, within) (second, part', max', within') = (
  subst (λ l. TakesKeys a o l c o'') (sym (parts_append p xs ys whole))
      (taken_both a b c o o' o'' (parts_in p xs) (parts_in p ys) first (subst (λ (t : RecordPart). TakesKeys b o' (parts_in t ys) c o'') part second)),
  part' ∙ part,
  max' ∙ max,
  λ small. subst (λ (t : ℕ). StaysWithin t b c) max within' (within small),
)

pub keys_sooner : (xs ys : List ℕ) (p : RecordPart) → AreWholeRecords (splits_by p) xs → (m : ℕ) (a : Sums) (o : List ℕ) (e : Failure) → FailsTakingKeys m a o (parts_in p xs) e → FailsTakingKeys m a o (parts_in p (xs ++ ys)) e
keys_sooner xs ys p whole m a o e f = subst (λ l. FailsTakingKeys m a o l e) (sym (parts_append p xs ys whole)) (taking_more m a o (parts_in p xs) (parts_in p ys) e f)

pub keys_later : (xs ys : List ℕ) (p q : RecordPart) → AreWholeRecords (splits_by p) xs → (m n : ℕ) (a b : Sums) (o o' : List ℕ) (e : Failure) → Takes p m a o xs b o' q n → FailsTakingKeys n b o' (parts_in q ys) e → FailsTakingKeys m a o (parts_in p (xs ++ ys)) e
keys_later xs ys p q whole m n a b o o' e (first, part, max, within) f =
    subst (λ l. FailsTakingKeys m a o l e) (sym (parts_append p xs ys whole))
    (taking_after m a b o o' (parts_in p xs) (parts_in p ys) e first
    (subst (λ (t : RecordPart). FailsTakingKeys m b o' (parts_in t ys) e) part (subst (λ (t : ℕ). FailsTakingKeys t b o' (parts_in q ys) e) max f)))

-- ---- sums

pub adds_none : (a : Sums) (t : ℕ) → AddsItems a t [] a t
adds_none a t = record {
  total_is = let none : total_of [] ≡ 0 = refl in omega (arith, none);
  names_are = refl;
  adds = λ before same holds. subst (λ (l : Weighed). HoldsSums l a) (sym (append-nil before)) holds;
}

pub adds_both : (a b c : Sums) (t u v : ℕ) (xs ys : Weighed) → AddsItems a t xs b u → AddsItems b u ys c v → AddsItems a t (xs ++ ys) c v
adds_both a b c t u v xs ys first second = record {
  total_is = omega (arith, first.total_is, second.total_is, total_both xs ys);
  names_are = second.names_are ∙ first.names_are;
  adds = λ before same holds. subst (λ (l : Weighed). HoldsSums l c) (append_assoc before xs ys)
      (second.adds (before ++ xs) (omega (arith, first.total_is, same, total_both before xs)) (first.adds before same holds));
}

module _ (p : WeighedRecord) where
  pub no_sums : (a : Sums) (t : ℕ) → AddsLines p a t [] a t
  no_sums a t = (adds_none a t, refl)

  pub one_sum : (a b : Sums) (t u : ℕ) (line : List ℕ) → AddsItems a t (weighed_line p line) b u × (unweighed_line p line ≡ []) → AddsLines p a t (line ∷ []) b u
  one_sum a b t u line (adds, each) = (subst (λ (l : Weighed). AddsItems a t l b u) (sym (append-nil (weighed_line p line))) adds, append-nil (unweighed_line p line) ∙ each)

  pub all_sums : (a b c : Sums) (t u v : ℕ) (xs ys : List (List ℕ)) → AddsLines p a t xs b u → AddsLines p b u ys c v → AddsLines p a t (xs ++ ys) c v
  all_sums a b c t u v xs ys (adds, each) (adds', each') = (
    subst (λ (l : Weighed). AddsItems a t l c v) (sym (weighed_append p xs ys)) (adds_both a b c t u v (weighed_lines p xs) (weighed_lines p ys) adds adds'),
    unweighed_append p xs ys ∙ (ap (λ l. l ++ unweighed_lines p ys) each ∙ each'),
  )

-- what a sink of items does with bytes of records
abbrev Adds : (p : WeighedRecord) (a : Sums) (t : ℕ) → List ℕ → (b : Sums) (u : ℕ) (q : WeighedRecord) → Type 0
Adds p a t bytes b u q = AddsLines p a t (records_by p.item bytes) b u × (q ≡ p)

pub sums_none : (p : WeighedRecord) (a : Sums) (t : ℕ) → Adds p a t [] a t p
sums_none p a t = rw (records_none p.item) (no_sums p a t, refl)

pub sums_both : (p : WeighedRecord) (xs ys : List ℕ) → AreWholeRecords (splits_by p.item) xs → (a b c : Sums) (t u v : ℕ) (q r : WeighedRecord) → Adds p a t xs b u q → Adds q b u ys c v r → Adds p a t (xs ++ ys) c v r
sums_both p xs ys whole a b c t u v q r (first, same) (second, same') = (
  subst (λ l. AddsLines p a t l c v) (sym (records_both (splits_by p.item) xs ys whole))
      (all_sums p a b c t u v (records_by p.item xs) (records_by p.item ys) first (subst (λ (s : WeighedRecord). AddsLines s b u (records_by s.item ys) c v) same second)),
  same' ∙ same,
)
