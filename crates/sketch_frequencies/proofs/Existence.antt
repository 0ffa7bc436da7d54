-- Bytes without a fault are an image of some sketch.
use Rattle.std.proofs.Common.{◌≡◌, ℕ, zero, suc, ◌+◌, ◌*◌, ◌<◌, ◌≤◌, ◌^◌, Bool, true, false, cond, eqb, not, List, [], ◌∷◌, ◌++◌, length, drop, sum, Option, Result, Ok, Err, None, Some, refl, sym, ap, ◌∙◌, append_assoc, arith, length-append}
use Rattle.std.proofs.Math.Pow.{pow_mono}
use Rattle.std.proofs.lemmas.Bool.{leb-true, false≢true}
use Rattle.std.proofs.lemmas.List.{append-nil}
use Rattle.std.proofs.lemmas.List.Sorted.{IsPermutation-refl}
use Rattle.sketch_base.specs.Checks.{first_failing, or_else}
use Rattle.sketch_base.specs.Fields.{byte_at}
use Rattle.sketch_base.specs.declared.fault.Fault.{Fault}
use Rattle.sketch_frequencies.specs.Image.{◌>>=◌, IsImage, items_in, items_at, weights_at, header_checks, count_checks, weight_checks, first_fault, early_fault, late_fault, fault_in, active_at, total_at, error_at, size_at, max_size_at, says_empty, state_of_contents}
use Rattle.sketch_frequencies.specs.Items.{Codec, IsLawful}
use Rattle.sketch_frequencies.specs.Reading.{AreCounted, AreCounters}
use Rattle.sketch_frequencies.specs.State.{FrequentState, IsState, capacity, max_sample_size, empty_state}
use Rattle.counter_table.specs.Tables.{put}
use Rattle.counter_table.specs.declared.table_key.TableKey.TheVariants.{Plain}
use Rattle.sketch_frequencies.proofs.Cases.{by_test}
use Rattle.sketch_frequencies.proofs.ImageCounting.{none_counted, counted_more, counted_dropped}
use Rattle.sketch_frequencies.proofs.EmptySketches.{fresh_state}
use Rattle.sketch_frequencies.proofs.Images.{image_of_none, state_of_counters, image_of_counters}
use Rattle.sketch_frequencies.proofs.Powers.{power_is}
use Rattle.sketch_frequencies.proofs.Puts.{IsDistinct-put}
use Rattle.sketch_frequencies.proofs.SampleSizes.{usual_sample}
use Rattle.sketch_frequencies.proofs.ImageWeights.{length-weights_at}

-- each check passes
abbrev AllPass : List (Bool × Fault) → Type 0
AllPass [] = Unit {0}
AllPass (check ∷ checks) = (check.0 ≡ true) × AllPass checks

pass_one : (b : Bool) (f : Fault) (rest : Option Fault) → cond b rest (Some f) ≡ None → (b ≡ true) × (rest ≡ None)
pass_one true f rest h = (refl, h)
pass_one false f rest h = absurd cc

all_pass : (checks : List (Bool × Fault)) → first_failing checks ≡ None → AllPass checks
all_pass [] h = tt
all_pass (check ∷ checks) h = let p = pass_one check.0 check.1 (first_failing checks) h in (p.0, all_pass checks p.1)

or_none : (a b : Option Fault) → or_else a b ≡ None → (a ≡ None) × (b ≡ None)
or_none None b h = (refl, h)
or_none (Some f) b h = absurd cc

fault_none : {A : Type 0} (r : Result A Fault) → fault_in r ≡ None → (x : A) × (r ≡ Ok x)
fault_none (Ok x) h = (x, refl)
fault_none (Err f) h = absurd cc

bind_ok : {A B : Type 0} (r : Result A Fault) (f : A → Result B Fault) (y : B) → (r >>= f) ≡ Ok y → (x : A) × (r ≡ Ok x) × (f x ≡ Ok y)
bind_ok (Ok x) f y e = (x, refl, e)
bind_ok (Err d) f y e = absurd cc

abbrev done : {A : Type 0} → A → Result A Fault
done x = Ok x

ok_is : {A : Type 0} (x y : A) → done x ≡ done y → x ≡ y
ok_is x y e = cc

positive : (n : ℕ) → not (eqb n 0) ≡ true → 0 < n
positive zero h = absurd (false≢true h)
positive (suc n) h = omega arith

module _ {C : Type 0} (codec : Codec C) where
  length-items_in : (n : ℕ) (bytes : List ℕ) (items : List C) → items_in codec n bytes ≡ Ok items → length items ≡ n
  unfolding items_in
  length-items_in zero bytes items h = ap length (sym (ok_is [] items h))
  length-items_in (suc n) bytes items h =
      let a = bind_ok (codec.reading bytes) (λ first. items_in codec n (drop first.1 bytes) >>= λ others. Ok (first.0 ∷ others)) items h in
      let b = bind_ok (items_in codec n (drop a.0.1 bytes)) (λ others. Ok (a.0.0 ∷ others)) items a.2 in
      ap length (sym (ok_is (a.0.0 ∷ b.0) items b.2)) ∙ ap suc (length-items_in n (drop a.0.1 bytes) b.0 b.1)

module _ {C : Type 0} (codec : Codec C) (lawful : IsLawful codec) where
  abbrev itself : C → C
  itself x = x

  abbrev Counted : List (C × ℕ) → List C → List ℕ → Type 0
  Counted es items ws = AreCounted codec itself codec.same es items ws

  -- the counters of all items
  collect : (rest : List C) (rws : List ℕ) (es : List (C × ℕ)) (front : List C) (ws : List ℕ) → length rest ≡ length rws → length front ≡ length ws → Counted es front ws → (fs : List (C × ℕ)) × Counted fs (front ++ rest) (ws ++ rws)
  collect [] [] es front ws h k counted = (es, rw (append-nil front, append-nil ws) counted)
  collect [] (w ∷ rws) es front ws h k counted = absurd (omega arith)
  collect (i ∷ rest) [] es front ws h k counted = absurd (omega arith)
  collect (i ∷ rest) (zero ∷ rws) es front ws h k counted =
      let laws = lawful.equivalence in
      let next = counted_dropped codec itself codec.same laws laws (λ x y. refl) es front ws i k counted in
      let go = collect rest rws es (front ++ i ∷ []) (ws ++ 0 ∷ []) (omega arith) (omega (arith, length-append front (i ∷ []), length-append ws (0 ∷ []))) next in
      (go.0, rw (append_assoc front (i ∷ []) rest, append_assoc ws (0 ∷ []) rws) at go.1)
  collect (i ∷ rest) (suc w ∷ rws) es front ws h k counted =
      let laws = lawful.equivalence in
      let apart = IsDistinct-put laws es i (suc w) counted.distinct in
      let next = counted_more codec itself codec.same laws laws (λ x y. refl) es (put codec.same es i (suc w)) front ws i (suc w) k (omega arith) counted (IsPermutation-refl (put codec.same es i (suc w))) apart apart in
      let go = collect rest rws (put codec.same es i (suc w)) (front ++ i ∷ []) (ws ++ suc w ∷ []) (omega arith) (omega (arith, length-append front (i ∷ []), length-append ws (suc w ∷ []))) next in
      (go.0, rw (append_assoc front (i ∷ []) rest, append_assoc ws (suc w ∷ []) rws) at go.1)

  empty_one : (image : List ℕ) → first_failing (header_checks image) ≡ None → says_empty image ≡ true → (s : FrequentState C) × IsImage codec image s
  empty_one image checks empty =
      let p = all_pass (header_checks image) checks in
      let high = leb-true (byte_at image 3) 30 p.1.1.1.1.0 in
      let low = leb-true 3 (byte_at image 4) p.1.1.1.0 in
      let mid = leb-true (byte_at image 4) (byte_at image 3) p.1.1.1.1.1.0 in
      let above : 3 ≤ byte_at image 3 = omega (arith, low, mid) in
      let least : 2 ^ 3 ≤ max_size_at image = pow_mono above in
      let most : max_size_at image ≤ 2 ^ 30 = pow_mono high in
      let m = max_size_at image in
      let n = max_sample_size m in
      let power = power_is (byte_at image 3) in
      let state : IsState codec.same (empty_state m n Plain) = fresh_state codec.same m n Plain 0 (omega (arith, least)) most power (usual_sample m (omega (arith, least)) power) in
      (state_of_contents itself (empty_state m n Plain), image_of_none codec itself codec.same (λ x y. refl) image m n Plain state checks empty refl)

  full_one : (image : List ℕ) → first_failing (header_checks image) ≡ None → says_empty image ≡ false → first_failing (count_checks image) ≡ None → first_failing (weight_checks image) ≡ None → fault_in (items_at codec image) ≡ None → (s : FrequentState C) × IsImage codec image s
  full_one image checks full counts weights items_ok =
      let p = all_pass (header_checks image) checks in
      let high = leb-true (byte_at image 3) 30 p.1.1.1.1.0 in
      let low = leb-true 3 (byte_at image 4) p.1.1.1.0 in
      let mid = leb-true (byte_at image 4) (byte_at image 3) p.1.1.1.1.1.0 in
      let q = all_pass (count_checks image) counts in
      let few = leb-true (active_at image) (capacity (size_at image)) q.1.0 in
      let r = all_pass (weight_checks image) weights in
      let within = leb-true (sum (weights_at image) + error_at image) (total_at image) r.1.0 in
      let read = fault_none (items_at codec image) items_ok in
      let len = length-weights_at image in
      let size = length-items_in codec (active_at image) (drop (32 + 8 * active_at image) image) read.0 read.1 in
      let laws = lawful.equivalence in
      let c = collect read.0 (weights_at image) [] [] [] (omega (arith, len, size)) refl (none_counted codec itself codec.same laws laws (λ x y. refl)) in
      let s : FrequentState C = record { counters = c.0; error = error_at image; total = total_at image; max_size = max_size_at image; size = size_at image; sample_size = max_sample_size (max_size_at image); key = Plain; purges = 0 } in
      let counters : AreCounters codec itself codec.same image c.0 = record { items = read.0; read = read.1; counted = c.1 } in
      let some : 0 < total_at image = positive (total_at image) q.1.1.1.0 in
      let least : 2 ^ 3 ≤ size_at image = pow_mono low in
      let below : size_at image ≤ max_size_at image = pow_mono mid in
      let most : max_size_at image ≤ 2 ^ 30 = pow_mono high in
      let power = power_is (byte_at image 3) in
      let state = state_of_counters codec itself codec.same (λ x y. refl) image s counters (omega (arith, len, few)) within (omega (arith, least)) below most (power_is (byte_at image 4)) power some (usual_sample (max_size_at image) (omega (arith, least, below)) power) in
      let made = image_of_counters codec itself codec.same (λ x y. refl) image s state counters checks full counts weights refl refl refl refl in
      (state_of_contents itself s, made)

  -- bytes without a fault are an image of some sketch
  pub image_is_of_some : (image : List ℕ) → first_fault codec image ≡ None → (s : FrequentState C) × IsImage codec image s
  image_is_of_some image h =
      let e = or_none (early_fault image) (late_fault codec image) h in
      let f = or_none (first_failing (header_checks image)) (cond (says_empty image) None (first_failing (count_checks image))) e.0 in
      by_test (says_empty image) (λ _. (s : FrequentState C) × IsImage codec image s)
      (λ empty. empty_one image f.0 empty)
      (λ full.
      let late : or_else (first_failing (weight_checks image)) (fault_in (items_at codec image)) ≡ None = rw full at e.1 in
      let counts : first_failing (count_checks image) ≡ None = rw full at f.1 in
      let l = or_none (first_failing (weight_checks image)) (fault_in (items_at codec image)) late in
      full_one image f.0 full counts l.0 l.1)
