-- Items with weights that are added one after another, lines of keys that are written, and the table.
use Rattle.std.proofs.Common.{◌≡◌, ◌≢◌, ⊎_elim, inl, inr, ◌⊎◌, ℕ, zero, suc, ◌+◌, ◌*◌, ◌-◌, ◌^◌, ◌<◌, ◌≤◌, true, false, eqb, min, List, [], ◌∷◌, ◌++◌, None, Some, pos, append_assoc, append-nil, refl, sym, ◌∙◌, ap, subst, arith}
use Rattle.std.proofs.lemmas.Bool.{cases_lt, eq-eqb}
use Rattle.std.proofs.lemmas.Bool.Decides.{nat_tests}
use Rattle.std.proofs.lemmas.List.Concat.{flat_map-append}
use Rattle.std.proofs.lemmas.List.Elements.{All-cons, All-nil}
use Rattle.std.specs.Hash.{le_bytes}
use Rattle.std.specs.List.{flat_map}
use Rattle.std.specs.Prelude.{◌==◌, nat_le, nat_lt}
use Rattle.sketch_base.specs.Errors.{ErrorValue, refusal_of}
use Rattle.sketch_base.specs.Hashes.{seed_hash}
use Rattle.sketch_base.specs.Murmur3.{body, finalization, finish_words, fmix64, mix_k1, mix_k2, murmur3_x64_128}
use Rattle.sketch_base.specs.declared.fault.Fault.TheVariants.{TableTooLarge}
use Rattle.sketch_countmin.specs.Shapes.{shape_fault}
use Rattle.sketch_countmin.specs.History.CountHistory.{New}
use Rattle.sketch_countmin.specs.Stands.{StandsFor}
use Rattle.sketch_countmin.specs.State.{CountState, IsMinCell, empty_state}
use Rattle.sketches.specs.Faults.{failure_of}
use Rattle.sketches.specs.KeyWeightLaws.{all_lines, estimates_both, estimates_none, lines_later, no_lines, one_fails, one_line}
use Rattle.sketches.specs.KeyWeights.{CountsLines, CountsWeighed, IsEmptyTable, IsTableFor, Row, WritesEstimates, row_line, unweighed_line, usable_seed, weighed_line}
use Rattle.sketch_text.specs.Records.{part_in, splits_by}
use Rattle.sketches.proofs.LineCounts.{IsNextCount, more_numbers, no_numbers}
use Rattle.sketches.specs.LineNumbers.{lines_of}
use Rattle.sketches.specs.Unseen.{hashed}
use Rattle.sketches.specs.Utf8Lines.{GrowsBy}
use Rattle.sketches.specs.WeighFailures.{FailsLines, FailsRecord, FailsTable}
use Rattle.sketches.specs.declared.failure.Failure.{Failure}
use Rattle.sketches.specs.declared.item.weighing.WeighedRecord.{WeighedRecord}
use Rattle.sketches.specs.declared.print.layout.Style.{Style}
use Rattle.sketch_text.specs.declared.record_part.RecordPart.{RecordPart}

-- ---- the items of records

-- the items of the records before those that are left were added, and their lines were counted
pub record HasCountedLines (chosen : WeighedRecord) (old : CountState) (n : ℕ) (all left : List (List ℕ)) (new : CountState) (m : ℕ) : Type 0 where
  pub done : List (List ℕ)
  pub parts : all ≡ done ++ left
  pub counts : CountsLines chosen old done new
  pub numbers : GrowsBy n (lines_of (splits_by chosen.item) done) m

pub lines_none : (chosen : WeighedRecord) (old : CountState) (n : ℕ) (all : List (List ℕ)) → HasCountedLines chosen old n all all old n
lines_none chosen old n all = record { done = []; parts = refl; counts = no_lines chosen old; numbers = no_numbers chosen n }

-- one more record
pub lines_more : (chosen : WeighedRecord) (old mid new : CountState) (n m k : ℕ) (all left later : List (List ℕ)) (line : List ℕ) → HasCountedLines chosen old n all left mid m → left ≡ line ∷ later → CountsWeighed mid (weighed_line chosen line) new × (unweighed_line chosen line ≡ []) → IsNextCount chosen m line k → HasCountedLines chosen old n all later new k
lines_more chosen old mid new n m k all left later line so next more is = record {
  done = so.done ++ line ∷ [];
  parts = so.parts ∙ (ap (λ l. so.done ++ l) next ∙ sym (append_assoc so.done (line ∷ []) later));
  counts = all_lines chosen old mid new so.done (line ∷ []) so.counts (one_line chosen mid new line more);
  numbers = more_numbers chosen n m k so.done line so.numbers is;
}

-- all records
pub lines_all : (chosen : WeighedRecord) (old new : CountState) (n m : ℕ) (all left : List (List ℕ)) → HasCountedLines chosen old n all left new m → left ≡ [] → CountsLines chosen old all new
lines_all chosen old new n m all left so none = subst (λ l. CountsLines chosen old l new) (sym (so.parts ∙ (ap (λ l. so.done ++ l) none ∙ append-nil so.done))) so.counts

pub all_numbered : (chosen : WeighedRecord) (old new : CountState) (n m : ℕ) (all left : List (List ℕ)) → HasCountedLines chosen old n all left new m → left ≡ [] → GrowsBy n (lines_of (splits_by chosen.item) all) m
all_numbered chosen old new n m all left so none = subst (λ l. GrowsBy n (lines_of (splits_by chosen.item) l) m) (sym (so.parts ∙ (ap (λ l. so.done ++ l) none ∙ append-nil so.done))) so.numbers

-- a failure at one more record
pub lines_failed : (chosen : WeighedRecord) (old mid : CountState) (n m number : ℕ) (all left later : List (List ℕ)) (line : List ℕ) (e : Failure) → HasCountedLines chosen old n all left mid m → left ≡ line ∷ later → number ≡ min (m + 1) (2 ^ 64 - 1) → FailsRecord chosen mid.total number line e → FailsLines chosen old.total n all e
lines_failed chosen old mid n m number all left later line e so next is f =
    subst (λ l. FailsLines chosen old.total n l e) (sym (so.parts ∙ ap (λ l. so.done ++ l) next))
    (lines_later chosen old.total mid.total n m so.done (line ∷ later) e so.counts.0.total so.counts.1 so.numbers (one_fails chosen mid.total m number line later e is f))

-- ---- the keys of records

-- a line for one key
pub one_written : (style : Style) (s : CountState) (key : List ℕ) (number : ℕ) (held holds : List ℕ) → IsMinCell s (hashed key) (pos number) → holds ≡ held ++ row_line style (number, key) → WritesEstimates style s (key ∷ []) (Some held) (Some holds)
one_written style s key number held holds least wrote = record {
  rows = (number, key) ∷ [];
  keys_are = refl;
  estimates = All-cons (λ (row : Row). IsMinCell s (hashed row.1) (pos row.0)) (number, key) [] least (All-nil (λ (row : Row). IsMinCell s (hashed row.1) (pos row.0)));
  wrote = wrote ∙ ap (λ l. held ++ l) (sym (append-nil (row_line style (number, key))));
}

-- the lines of the keys of the records before those that are left were written
pub record HasWrittenKeys (style : Style) (part : RecordPart) (s : CountState) (all left : List (List ℕ)) (held holds : List ℕ) : Type 0 where
  pub done : List (List ℕ)
  pub parts : all ≡ done ++ left
  pub wrote : WritesEstimates style s (flat_map (part_in part) done) (Some held) (Some holds)

pub keys_none : (style : Style) (part : RecordPart) (s : CountState) (all : List (List ℕ)) (held : List ℕ) → HasWrittenKeys style part s all all held held
keys_none style part s all held = record { done = []; parts = refl; wrote = estimates_none style s (Some held) }

-- one more record
pub keys_more : (style : Style) (part : RecordPart) (s : CountState) (all left later : List (List ℕ)) (line held holds now : List ℕ) → HasWrittenKeys style part s all left held holds → left ≡ line ∷ later → WritesEstimates style s (part_in part line) (Some holds) (Some now) → HasWrittenKeys style part s all later held now
keys_more style part s all left later line held holds now so next more = record {
  done = so.done ++ line ∷ [];
  parts = so.parts ∙ (ap (λ l. so.done ++ l) next ∙ sym (append_assoc so.done (line ∷ []) later));
  wrote =
      subst (λ l. WritesEstimates style s l (Some held) (Some now)) (sym (flat_map-append (part_in part) so.done (line ∷ []) ∙ ap (λ l. flat_map (part_in part) so.done ++ l) (append-nil (part_in part line))))
      (estimates_both style s (flat_map (part_in part) so.done) (part_in part line) (Some held) (Some holds) (Some now) so.wrote more);
}

-- all records
pub keys_all : (style : Style) (part : RecordPart) (s : CountState) (all left : List (List ℕ)) (held holds : List ℕ) → HasWrittenKeys style part s all left held holds → left ≡ [] → WritesEstimates style s (flat_map (part_in part) all) (Some held) (Some holds)
keys_all style part s all left held holds so none =
    subst (λ l. WritesEstimates style s (flat_map (part_in part) l) (Some held) (Some holds)) (sym (so.parts ∙ (ap (λ l. so.done ++ l) none ∙ append-nil so.done))) so.wrote

-- ---- the table

-- the seeds of the published formats have a hash that is not 0
default_seeded : seed_hash 9001 ≡ 37836
unfolding seed_hash le_bytes murmur3_x64_128 body finish_words finalization mix_k1 mix_k2 fmix64
default_seeded = refl

zero_or_more : (n : ℕ) → (n ≡ 0) ⊎ (0 < n)
zero_or_more zero = inl refl
zero_or_more (suc n) = inr (omega arith)

seeded : (seed : ℕ) → seed_hash (usable_seed seed) ≢ 0
seeded seed e =
    ⊎_elim
    (λ zero. let is : usable_seed seed ≡ 9001 = rw (eq-eqb (seed_hash seed) 0 zero) refl in absurd (omega (arith, sym (ap seed_hash is) ∙ e, default_seeded)))
    (λ some. let test : eqb (seed_hash seed) 0 ≡ false = grind (arith, nat_tests) in let is : usable_seed seed ≡ seed = rw test refl in absurd (omega (arith, sym (ap seed_hash is) ∙ e, some)))
    (zero_or_more (seed_hash seed))

no_fault : (hashes buckets seed : ℕ) → 1 ≤ hashes → 3 ≤ buckets → hashes * buckets < 2 ^ 30 → seed_hash seed ≢ 0 → shape_fault hashes buckets seed ≡ None
no_fault hashes buckets seed some wide small good = let t : (hashes == 0) ≡ false = grind (arith, nat_tests) in let u : nat_lt buckets 3 ≡ false = grind (arith, nat_tests) in let v : nat_le (2 ^ 30) (hashes * buckets) ≡ false = grind (arith, nat_tests) in let w : (seed_hash seed == 0) ≡ false = grind (arith, nat_tests) in rw (t, u, v, w) refl

too_large : (hashes buckets seed : ℕ) → 1 ≤ hashes → 3 ≤ buckets → 2 ^ 30 ≤ hashes * buckets → shape_fault hashes buckets seed ≡ Some TableTooLarge
too_large hashes buckets seed some wide large = let t : (hashes == 0) ≡ false = grind (arith, nat_tests) in let u : nat_lt buckets 3 ≡ false = grind (arith, nat_tests) in let v : nat_le (2 ^ 30) (hashes * buckets) ≡ true = grind (arith, nat_tests) in rw (t, u, v) refl

-- a sketch of suggested sizes is not made
pub table_failed : (parts questions hashes buckets seed : ℕ) (e : ErrorValue) → IsTableFor parts questions hashes buckets → 1 ≤ hashes → 3 ≤ buckets → e ≡ refusal_of (shape_fault hashes buckets (usable_seed seed)) → FailsTable parts questions (failure_of e.fault)
table_failed parts questions hashes buckets seed e sizes some wide refused = ⊎_elim
    (λ small. rw (refused ∙ ap refusal_of (no_fault hashes buckets (usable_seed seed) some wide small (seeded seed))) tt)
    (λ large. rw (refused ∙ ap refusal_of (too_large hashes buckets (usable_seed seed) some wide large)) (inr (inr (inr (hashes, buckets, sizes, large)))))
    (cases_lt (hashes * buckets) (2 ^ 30))

-- a sketch of suggested sizes is made
pub table_made : (parts questions seed hashes buckets : ℕ) (s : CountState) → IsTableFor parts questions hashes buckets → 3 ≤ buckets → s ≡ empty_state hashes buckets (usable_seed seed) → StandsFor s (New hashes buckets (usable_seed seed)) → IsEmptyTable parts questions seed s
table_made parts questions seed hashes buckets s sizes wide is stands =
    let h : hashes ≡ s.hashes = ap (λ (t : CountState). t.hashes) (sym is) in
    let b : buckets ≡ s.buckets = ap (λ (t : CountState). t.buckets) (sym is) in
    record {
      sizes = subst (λ (n : ℕ). IsTableFor parts questions n s.buckets) h (subst (λ (n : ℕ). IsTableFor parts questions hashes n) b sizes);
      some_buckets = omega (arith, b, wide);
      is = subst (λ (n : ℕ). s ≡ empty_state n s.buckets (usable_seed seed)) h (subst (λ (n : ℕ). s ≡ empty_state hashes n (usable_seed seed)) b is);
      stands = subst (λ (n : ℕ). StandsFor s (New n s.buckets (usable_seed seed))) h (subst (λ (n : ℕ). StandsFor s (New hashes n (usable_seed seed))) b stands);
    }
