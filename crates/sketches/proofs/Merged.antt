-- Images that are merged one after another.
use Rattle.std.proofs.Common.{◌≡◌, ⊎_elim, ℕ, ◌+◌, ◌<◌, List, [], ◌∷◌, ◌++◌, length, map, sum_by, cond, Option, None, Some, Result, append_assoc, append-nil, refl, sym, ◌∙◌, ap, subst, arith, length-append}
use Rattle.std.proofs.Math.Seq.{get_or-append_seam}
use Rattle.std.proofs.lemmas.Bool.{cases_lt}
use Rattle.std.proofs.lemmas.List.{map-append}
use Rattle.std.proofs.lemmas.List.Concat.{flat_map-append}
use Rattle.std.proofs.lemmas.List.Sums.{sum_by-append, sum_by-cons}
use Rattle.std.specs.List.{AllZip, Any}
use Rattle.std.specs.Global.{Global}
use Rattle.std.specs.Option.{IfSome}
use Rattle.std.specs.Str.{bytes_eq}
use Rattle.std.specs.String.{string_bytes, string_eq}
use Rattle.std.specs.declared.string.String.{String}
use Rattle.std.specs.declared.io.Error.{Error}
use Rattle.sketch_frequencies.specs.History.{true_weight, total_weight}
use Rattle.sketch_frequencies.specs.History.FrequentHistory.{Merge, Restored}
use Rattle.sketch_frequencies.specs.Image.{prefix_bytes}
use Rattle.sketch_frequencies.specs.Items.{text_codec}
use Rattle.sketch_frequencies.specs.ManyMerges.{JoinsAll}
use Rattle.sketch_frequencies.specs.Stands.{ExtendsBoth, ExtendsBothBudgets}
use Rattle.sketch_frequencies.specs.State.{IsState}
use Rattle.sketch_frequencies.specs.Steps.{JoinsEqual}
use Rattle.sketch_frequencies.proofs.KeyedBatches.{all_zip_push}
use Rattle.sketches.specs.Added.{Sketch}
use Rattle.sketches.specs.ImageFailures.{EndsAdding, EndsMerge, IsBadImage, IsRejected, IsUnread, fault_within}
use Rattle.sketches.specs.Images.{HasItems, IsImageOfItems, IsOpened, Loads, Merges, OpensImage, all_items, total_in}
use Rattle.sketches.specs.Weighed.{Weighed, weight_of}
use Rattle.sketches.specs.declared.image.images.ImageFailure.{ImageFailure}
use Rattle.sketches.specs.declared.image.images.ImageFailure.TheVariants.{Memory, NoImage, Read, TooLong, Rejected, TrailingBytes, TooManyItems, Write}

-- ---- the items of a sketch

loaded_items : (size limit : ℕ) (image : List ℕ) (items : Weighed) (s : Sketch) → Loads limit image s → IsImageOfItems size image items → HasItems size items s
loaded_items size limit image items s l of = record {
  strings = of.has.strings;
  are = of.has.are;
  history = Restored of.has.history;
  stands = l.stands of.sketch of.image_of of.has.history of.has.stands.encloses;
  budget = l.budget of.sketch of.image_of of.has.history of.has.stands.encloses of.has.budget;
  weights = of.has.weights;
  total = of.has.total;
  table = of.has.table;
  sample = of.has.sample;
}

weight_both : (a b : Weighed) (item : List ℕ) → weight_of (a ++ b) item ≡ weight_of a item + weight_of b item
weight_both a b item = sum_by-append (λ (pair : List ℕ × ℕ). cond (bytes_eq pair.0 item) pair.1 0) a b

abbrev named : String Global × ℕ → List ℕ × ℕ
named pair = (string_bytes pair.0, pair.1)

merged_items : (size : ℕ) (a b : Weighed) (s t new : Sketch) → HasItems size a s → HasItems size b t → ExtendsBoth string_eq s t new Merge → ExtendsBothBudgets string_eq s t new Merge → HasItems size (a ++ b) new
merged_items size a b s t new p q stands budget = record {
  strings = p.strings ++ q.strings;
  are = map-append named p.strings q.strings ∙ (ap (λ (l : Weighed). l ++ map named q.strings) p.are ∙ ap (λ (l : Weighed). a ++ l) q.are);
  history = Merge p.history q.history;
  stands = stands p.history q.history p.stands q.stands;
  budget = budget p.history q.history p.stands q.stands p.budget q.budget;
  weights = λ x.
      let both : true_weight string_eq (Merge p.history q.history) x ≡ true_weight string_eq p.history x + true_weight string_eq q.history x = refl in
      omega (arith, both, p.weights x, q.weights x, weight_both a b (string_bytes x));
  total = let both : total_weight (Merge p.history q.history) ≡ total_weight p.history + total_weight q.history = refl in omega (arith, both, p.total, q.total, sum_by-append (λ (pair : List ℕ × ℕ). pair.1) a b);
  table = omega (arith, p.table, q.table);
  sample = omega (arith, p.sample, q.sample);
}

-- ---- lists

-- a list of pairs whose first parts end in x ends in one
record EndsIn {A B : Type 0} (R : A → B → Type 0) (xs : List A) (x : A) (zs : List B) : Type 0 where
  front : List B
  last : B
  parts : zs ≡ front ++ last ∷ []
  all : AllZip R xs front
  one : R x last

ends_in : {A B : Type 0} (R : A → B → Type 0) (xs : List A) (x : A) (zs : List B) → AllZip R (xs ++ x ∷ []) zs → EndsIn R xs x zs
ends_in R [] x [] all = absurd all
ends_in R [] x (z ∷ []) all = record { front = []; last = z; parts = refl; all = tt; one = all.0 }
ends_in R [] x (z ∷ y ∷ zs) all = absurd all.1
ends_in R (w ∷ xs) x [] all = absurd all
ends_in {B = B} R (w ∷ xs) x (z ∷ zs) all =
    let more = ends_in R xs x zs all.1 in
    record { front = z ∷ more.front; last = more.last; parts = ap (λ (l : List B). z ∷ l) more.parts; all = (all.0, more.all); one = more.one }

no_front : {A B : Type 0} (R : A → B → Type 0) (zs : List B) → AllZip R [] zs → zs ≡ []
no_front R [] all = refl
no_front R (z ∷ zs) all = absurd all

all_more : (lists : List Weighed) (items : Weighed) → all_items (lists ++ items ∷ []) ≡ all_items lists ++ items
all_more lists items = flat_map-append (λ (l : Weighed). l) lists (items ∷ []) ∙ ap (λ (l : Weighed). all_items lists ++ l) (append-nil items)

total_both : (xs ys : List (List ℕ)) → sum_by total_in (xs ++ ys) ≡ sum_by total_in xs + sum_by total_in ys
total_both xs ys = sum_by-append total_in xs ys

total_first : (x : List ℕ) (xs : List (List ℕ)) → sum_by total_in (x ∷ xs) ≡ total_in x + sum_by total_in xs
total_first x xs = sum_by-cons total_in x xs

any_at : {X : Type 0} (P : X → Type 0) (done : List X) (x : X) (later : List X) → P x → Any P (done ++ x ∷ later)
any_at P done x later p = (length done, x, omega (arith, length-append done (x ∷ later)), get_or-append_seam done x later x, p)

-- ---- one more merge

joins_more : (old mid new : Sketch) (others : List Sketch) (other : Sketch) → JoinsAll string_eq old others mid → JoinsEqual string_eq mid other new → JoinsAll string_eq old (others ++ other ∷ []) new
joins_more old mid new [] other is j = (new, subst (λ (s : Sketch). JoinsEqual string_eq s other new) is j, refl)
joins_more old mid new (first ∷ others) other joins j = (joins.0, joins.1, joins_more joins.0 mid new others other joins.2 j)

joined_total : (old other new : Sketch) → JoinsEqual string_eq old other new → new.total ≡ old.total + other.total
joined_total old other new j =
    let own = j.same_own.holds.total in
    let more = j.same_more.holds.total in
    ⊎_elim
    (λ some. omega (arith, own, more, (j.join.added some).total))
    (λ none. let same : new.total ≡ j.own.total = ap (λ (s : Sketch). s.total) (j.join.nothing (omega (arith, none))) in omega (arith, own, more, none, same))
    (cases_lt 0 j.more.total)

merges_one : (limit : ℕ) (image : List ℕ) (s : Sketch) → Loads limit image s → Merges limit (image ∷ []) s
merges_one limit image s l = record {
  first = s;
  others = [];
  loaded = (l, tt);
  joins = refl;
  total = omega (arith, l.image_of.total, total_first image []);
  within = l.state.sum;
  items = λ size lists all.
      let ends = ends_in (IsImageOfItems size) [] image lists all in
      let none : ends.front ≡ [] = no_front (IsImageOfItems size) ends.front ends.all in
      let is : all_items lists ≡ ends.last = ap all_items ends.parts ∙ (all_more ends.front ends.last ∙ ap (λ (l : List Weighed). all_items l ++ ends.last) none) in
      subst (λ (items : Weighed). HasItems size items s) (sym is) (loaded_items size limit image ends.last s l ends.one);
}

merges_more : (limit : ℕ) (done : List (List ℕ)) (image : List ℕ) (mid other new : Sketch) → Merges limit done mid → Loads limit image other → JoinsEqual string_eq mid other new → ExtendsBoth string_eq mid other new Merge → ExtendsBothBudgets string_eq mid other new Merge → IsState string_eq new → Merges limit (done ++ image ∷ []) new
merges_more limit done image mid other new so l join stands budget state = record {
  first = so.first;
  others = so.others ++ other ∷ [];
  loaded = all_zip_push (Loads limit) done (so.first ∷ so.others) image other so.loaded l;
  joins = joins_more so.first mid new so.others other so.joins join;
  total = omega (arith, so.total, l.image_of.total, joined_total mid other new join, total_both done (image ∷ []), total_first image []);
  within = state.sum;
  items = λ size lists all.
      let ends = ends_in (IsImageOfItems size) done image lists all in
      let is : all_items lists ≡ all_items ends.front ++ ends.last = ap all_items ends.parts ∙ all_more ends.front ends.last in
      subst (λ (items : Weighed). HasItems size items new) (sym is)
      (merged_items size (all_items ends.front) ends.last mid other new (so.items size ends.front ends.all) (loaded_items size limit image ends.last other l ends.one) stands budget);
}

-- ---- where the images are known

-- the images before those that are left were merged
pub record HasMergedFirst (limit : ℕ) (images left : List (List ℕ)) (s : Sketch) : Type 0 where
  pub done : List (List ℕ)
  pub parts : images ≡ done ++ left
  pub merges : Merges limit done s

abbrev pub HasMerged : ℕ → Option (List (List ℕ)) → Option (List (List ℕ)) → Sketch → Type 0
HasMerged limit was is s = IfSome was (λ images. (left : List (List ℕ)) × (is ≡ Some left) × HasMergedFirst limit images left s)

pub merged_first : {R E : Type 0} (limit : ℕ) (remaining : R → Option (List ℕ)) (was is : Option (List (List ℕ))) (next : Option (Result R E)) (opened : Result R E) (s : Sketch)
    → OpensImage remaining was is next → next ≡ Some opened → ((image : List ℕ) → IsOpened remaining image opened → Loads limit image s) → HasMerged limit was is s
merged_first limit remaining None is next opened s opens e load = tt
merged_first limit remaining (Some images) is next opened s opens e load =
    let (image, later, parts, after, reader) = rw e at opens in
    (later, after, record { done = image ∷ []; parts = parts; merges = merges_one limit image s (load image reader) })

pub merged_next : {R E : Type 0} (limit : ℕ) (remaining : R → Option (List ℕ)) (was is is' : Option (List (List ℕ))) (next : Option (Result R E)) (opened : Result R E) (mid other new : Sketch)
    → HasMerged limit was is mid → OpensImage remaining is is' next → next ≡ Some opened → ((image : List ℕ) → IsOpened remaining image opened → Loads limit image other)
    → JoinsEqual string_eq mid other new → ExtendsBoth string_eq mid other new Merge → ExtendsBothBudgets string_eq mid other new Merge → IsState string_eq new → HasMerged limit was is' new
merged_next limit remaining None is is' next opened mid other new so opens e load join stands budget state = tt
merged_next limit remaining (Some images) is is' next opened mid other new (left, here, so) opens e load join stands budget state =
    let (image, later, parts, after, reader) = rw (here, e) at opens in (
      later,
      after,
      record {
        done = so.done ++ image ∷ [];
        parts = so.parts ∙ (ap (λ l. so.done ++ l) parts ∙ sym (append_assoc so.done (image ∷ []) later));
        merges = merges_more limit so.done image mid other new so.merges (load image reader) join stands budget state;
      },
    )

pub merged_all : {R E : Type 0} (limit : ℕ) (remaining : R → Option (List ℕ)) (was is is' : Option (List (List ℕ))) (next : Option (Result R E)) (s : Sketch)
    → HasMerged limit was is s → OpensImage remaining is is' next → next ≡ None → IfSome was (λ all. Merges limit all s)
merged_all limit remaining None is is' next s so opens e = tt
merged_all limit remaining (Some images) is is' next s (left, here, so) opens e =
    let none : left ≡ [] = rw (here, e) at opens in
    subst (λ l. Merges limit l s) (sym (so.parts ∙ (ap (λ l. so.done ++ l) none ∙ append-nil so.done))) so.merges

-- ---- errors

unread_ends : (limit : ℕ) (done : List (List ℕ)) (image : List ℕ) (later : List (List ℕ)) (failure : ImageFailure) → IsUnread limit image failure → EndsMerge limit (done ++ image ∷ later) (λ _. ⊥) failure
unread_ends limit done image later Memory r = tt
unread_ends limit done image later NoImage r = absurd r
unread_ends limit done image later (Read error) r = tt
unread_ends limit done image later TooLong r = any_at (λ (l : List ℕ). limit < length l) done image later r
unread_ends limit done image later (Rejected fault) r = absurd r
unread_ends limit done image later TrailingBytes r = absurd r
unread_ends limit done image later TooManyItems r = absurd r
unread_ends limit done image later (Write error) r = absurd r

bad_ends : (limit : ℕ) (done : List (List ℕ)) (image : List ℕ) (later : List (List ℕ)) (failure : ImageFailure) → IsBadImage limit image failure → EndsMerge limit (done ++ image ∷ later) (λ _. ⊥) failure
bad_ends limit done image later Memory r = tt
bad_ends limit done image later NoImage r = absurd r
bad_ends limit done image later (Read error) r = absurd r
bad_ends limit done image later TooLong r = absurd r
bad_ends limit done image later (Rejected fault) r = any_at (λ (l : List ℕ). fault_within limit l ≡ Some fault) done image later r
bad_ends limit done image later TrailingBytes r = any_at (λ (l : List ℕ). prefix_bytes text_codec l < length l) done image later r
bad_ends limit done image later TooManyItems r = absurd r
bad_ends limit done image later (Write error) r = absurd r

rejected_ends : (limit : ℕ) (done : List (List ℕ)) (image : List ℕ) (later : List (List ℕ)) (failure : ImageFailure) → IsRejected limit image failure → EndsMerge limit (done ++ image ∷ later) (λ _. ⊥) failure
rejected_ends limit done image later failure r = ⊎_elim (unread_ends limit done image later failure) (bad_ends limit done image later failure) r

pub no_image : {R E : Type 0} (limit : ℕ) (remaining : R → Option (List ℕ)) (was is : Option (List (List ℕ))) (next : Option (Result R E)) → OpensImage remaining was is next → next ≡ None → IfSome was (λ all. EndsMerge limit all (λ _. ⊥) NoImage)
no_image limit remaining None is next opens e = tt
no_image limit remaining (Some images) is next opens e = rw e at opens

pub first_rejected : {R E : Type 0} (limit : ℕ) (remaining : R → Option (List ℕ)) (was is : Option (List (List ℕ))) (next : Option (Result R E)) (opened : Result R E) (failure : ImageFailure)
    → OpensImage remaining was is next → next ≡ Some opened → ((image : List ℕ) → IsOpened remaining image opened → IsRejected limit image failure) → IfSome was (λ all. EndsMerge limit all (λ _. ⊥) failure)
first_rejected limit remaining None is next opened failure opens e reject = tt
first_rejected limit remaining (Some images) is next opened failure opens e reject =
    let (image, later, parts, after, reader) = rw e at opens in
    subst (λ l. EndsMerge limit l (λ _. ⊥) failure) (sym parts) (rejected_ends limit [] image later failure (reject image reader))

pub next_rejected : {R E : Type 0} (limit : ℕ) (remaining : R → Option (List ℕ)) (was is is' : Option (List (List ℕ))) (next : Option (Result R E)) (opened : Result R E) (mid : Sketch) (failure : ImageFailure)
    → HasMerged limit was is mid → OpensImage remaining is is' next → next ≡ Some opened → ((image : List ℕ) → IsOpened remaining image opened → IsRejected limit image failure) → IfSome was (λ all. EndsMerge limit all (λ _. ⊥) failure)
next_rejected limit remaining None is is' next opened mid failure so opens e reject = tt
next_rejected limit remaining (Some images) is is' next opened mid failure (left, here, so) opens e reject =
    let (image, later, parts, after, reader) = rw (here, e) at opens in
    subst (λ l. EndsMerge limit l (λ _. ⊥) failure) (sym (so.parts ∙ ap (λ l. so.done ++ l) parts)) (rejected_ends limit so.done image later failure (reject image reader))

adding_ends : (limit total : ℕ) (done : List (List ℕ)) (image : List ℕ) (later : List (List ℕ)) (failure : ImageFailure) → total ≡ sum_by total_in done + total_in image → EndsAdding total failure → EndsMerge limit (done ++ image ∷ later) (λ _. ⊥) failure
adding_ends limit total done image later failure is ends =
    ⊎_elim
    (λ memory. subst (EndsMerge limit (done ++ image ∷ later) (λ _. ⊥)) (sym memory) tt)
    (λ over. subst (EndsMerge limit (done ++ image ∷ later) (λ _. ⊥)) (sym over.0) (omega (arith, over.1, is, total_both done (image ∷ later), total_first image later)))
    ends

pub next_too_many : {R E : Type 0} (limit : ℕ) (remaining : R → Option (List ℕ)) (was is is' : Option (List (List ℕ))) (next : Option (Result R E)) (opened : Result R E) (mid other : Sketch) (failure : ImageFailure)
    → HasMerged limit was is mid → OpensImage remaining is is' next → next ≡ Some opened → ((image : List ℕ) → IsOpened remaining image opened → Loads limit image other) → EndsAdding (mid.total + other.total) failure → IfSome was (λ all. EndsMerge limit all (λ _. ⊥) failure)
next_too_many limit remaining None is is' next opened mid other failure so opens e load ends = tt
next_too_many limit remaining (Some images) is is' next opened mid other failure (left, here, so) opens e load ends =
    let (image, later, parts, after, reader) = rw (here, e) at opens in
    subst (λ l. EndsMerge limit l (λ _. ⊥) failure) (sym (so.parts ∙ ap (λ l. so.done ++ l) parts))
    (adding_ends limit (mid.total + other.total) so.done image later failure (omega (arith, so.merges.total, (load image reader).image_of.total)) ends)

pub memory_ends : (limit : ℕ) (was : Option (List (List ℕ))) → IfSome was (λ all. EndsMerge limit all (λ _. ⊥) Memory)
memory_ends limit None = tt
memory_ends limit (Some all) = tt

-- a merge that ends before the output
pub ends_before : (limit : ℕ) (images : List (List ℕ)) (output : Error → Type 0) (failure : ImageFailure) → EndsMerge limit images (λ _. ⊥) failure → EndsMerge limit images output failure
ends_before limit images output Memory r = r
ends_before limit images output NoImage r = r
ends_before limit images output (Read error) r = r
ends_before limit images output TooLong r = r
ends_before limit images output (Rejected fault) r = r
ends_before limit images output TrailingBytes r = r
ends_before limit images output TooManyItems r = r
ends_before limit images output (Write error) r = absurd r

pub some_ends_before : (limit : ℕ) (was : Option (List (List ℕ))) (output : List (List ℕ) → Error → Type 0) (failure : ImageFailure) → IfSome was (λ all. EndsMerge limit all (λ _. ⊥) failure) → IfSome was (λ all. EndsMerge limit all (output all) failure)
some_ends_before limit None output failure r = tt
some_ends_before limit (Some all) output failure r = ends_before limit all (output all) failure r
