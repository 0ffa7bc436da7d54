-- A session keeps its key, and its sketches have it.
use Rattle.std.proofs.Common.{◌≡◌, ℕ, ◌+◌, ◌^◌, Bool, true, false, cond, List, Option, Some, None, inl, inr, refl, sym, ◌∙◌, ap, subst, ◌⊎◌}
use Rattle.std.specs.Prelude.{IfSome}
use Rattle.std.specs.Str.{bytes_eq}
use Rattle.std.proofs.Math.Nat.{eq-zero-or-pos}
use Rattle.std.proofs.lemmas.Bool.{cases_lt, true≢false}
use Rattle.std.proofs.lemmas.Slice.Eq.{bytes_eq-Decides}
use Rattle.counter_table.specs.declared.table_key.TableKey.{TableKey}
use Rattle.sketch_base.specs.Errors.{ErrorValue, refusal_of}
use Rattle.sketch_frequencies.specs.Items.{Codec}
use Rattle.sketch_frequencies.specs.State.{FrequentState}
use Rattle.sketch_frequencies.specs.Steps.{JoinsEqual}
use Rattle.datasketches.specs.Actions.{Action, Action as action, Change, Change as change, Join, Join as join, Shape, Shape as shape}
use Rattle.datasketches.specs.Changing.{AddsFrequent, Changes}
use Rattle.datasketches.specs.Hashing.{IsUnder, HasOneKey}
use Rattle.datasketches.specs.Images.{IsReadRefusal, IsLoadRefusal}
use Rattle.datasketches.specs.KeysKept.{makes, loads, keys_kept}
use Rattle.datasketches.specs.Joining.{Joins, JoinsFrequent}
use Rattle.datasketches.specs.Names.{at_name, Puts, AreSame}
use Rattle.datasketches.specs.Shapes.{empty_sketch, fault_of}
use Rattle.datasketches.specs.State.{SessionKeys, SessionState}
use Rattle.datasketches.specs.Steps.{OnSketch, Alters, Stores, Creates, IsCreated, JoinsNamed, JoinsApart, Writes, Reads, IsRestored, IsLoaded, Performs}
use Rattle.datasketches.specs.declared.reply.Reply.{Reply}
use Rattle.datasketches.specs.declared.sketch.Sketch.{Sketch}
use Rattle.datasketches.specs.declared.sketch.Sketch.TheVariants.{Frequent, CountI64, CountU64, Bloom}

-- ---- the sketches under names

module _ {T : Type 0} (key : TableKey) where
  -- each of them has the key
  abbrev AllUnder : List (List ℕ × Sketch T) → Type 0
  AllUnder sketches = (name : List ℕ) → IfSome (at_name name sketches) (IsUnder key)

  put_case : (t : Bool) (sketch : Sketch T) (found : Option (Sketch T)) → IsUnder key sketch → IfSome found (IsUnder key) → IfSome (cond t (Some sketch) found) (IsUnder key)
  put_case true sketch found is all = is
  put_case false sketch found is all = all

  put_under : (name : List ℕ) (sketch : Sketch T) (old new : List (List ℕ × Sketch T)) → AllUnder old → IsUnder key sketch → Puts name sketch old new → AllUnder new
  put_under name sketch old new all is puts other = rw (puts other) (put_case (bytes_eq name other) sketch (at_name other old) is (all other))

  same_under : (old new : List (List ℕ × Sketch T)) → AllUnder old → AreSame old new → AllUnder new
  same_under old new all same name = rw (same name) (all name)

  found_under : (name : List ℕ) (sketch : Sketch T) (sketches : List (List ℕ × Sketch T)) → AllUnder sketches → at_name name sketches ≡ Some sketch → IsUnder key sketch
  found_under name sketch sketches all e = rw e at (all name)

  -- a sketch that was stored, or not
  stores_under : (Good : Sketch T → Type 0) (Why : ErrorValue → Type 0) (name : List ℕ) (old new : List (List ℕ × Sketch T)) (reply : Reply T) → ((sketch : Sketch T) → Good sketch → IsUnder key sketch) → AllUnder old → Stores Good Why name old reply new → AllUnder new
  stores_under Good Why name old new reply keyed all (inl (sketch, reply_is, good, puts)) = put_under name sketch old new all (keyed sketch good) puts
  stores_under Good Why name old new reply keyed all (inr (error, why, (reply_is, same))) = same_under old new all same

  -- an empty sketch
  empty_under : (shape : Shape) (sketch : Sketch T) → sketch ≡ empty_sketch key shape → IsUnder key sketch
  empty_under (shape.Frequent sizes) sketch e = subst (λ (s : Sketch T). IsUnder key s) (sym e) refl
  empty_under (shape.CountI64 sizes) sketch e = subst (λ (s : Sketch T). IsUnder key s) (sym e) tt
  empty_under (shape.CountU64 sizes) sketch e = subst (λ (s : Sketch T). IsUnder key s) (sym e) tt
  empty_under (shape.Bloom request) sketch e = subst (λ (s : Sketch T). IsUnder key s) (sym e) tt

-- ---- a sketch of frequent items after a call

-- cases on a choice
by_cases : {P Q G : Type 0} → P ⊎ Q → (P → G) → (Q → G) → G
by_cases (inl p) f g = f p
by_cases (inr q) f g = g q

module _ {T : Type 0} where
  -- equal sketches have the same key
  same_key : (s t : FrequentState T) → t ≡ s → t.key ≡ s.key
  same_key s t e = ap (λ (u : FrequentState T). u.key) e

module _ {T : Type 0} (eq : T → T → Bool) where
  added_key : (item : T) (weight : ℕ) (s t : FrequentState T) (reply : Reply T) → AddsFrequent eq item weight s reply t → t.key ≡ s.key
  added_key item weight s t reply does =
      by_cases (eq-zero-or-pos weight)
      (λ none. same_key s t (does.nothing none).1)
      (λ some. by_cases (cases_lt (s.total + weight) (2 ^ 64))
      (λ room. by_cases (does.added some room) (λ added. added.1.key) (λ refused. same_key s t refused.2))
      (λ over. same_key s t (does.overflow over).1))

  merged_key : (s other t : FrequentState T) → JoinsEqual eq s other t → t.key ≡ s.key
  merged_key s other t j =
      by_cases (eq-zero-or-pos j.more.total)
      (λ none. same_key j.own t (j.join.nothing none) ∙ j.same_own.key)
      (λ some. (j.join.added some).key ∙ j.same_own.key)

  joined_key : (other s t : FrequentState T) (reply : Reply T) → JoinsFrequent eq other s reply t → t.key ≡ s.key
  joined_key other s t reply does =
      by_cases (cases_lt (s.total + other.total) (2 ^ 64))
      (λ room. by_cases (does.joined room) (λ joined. merged_key s other t joined.1) (λ refused. same_key s t refused.1))
      (λ over. same_key s t (does.overflow over).1)

module _ {T : Type 0} (eq : T → T → Bool) (input : T → List (List ℕ)) (key : TableKey) where
  -- what a sketch is, it has the key
  is_under : (sketch new : Sketch T) → IsUnder key sketch → new ≡ sketch → IsUnder key new
  is_under sketch new is e = subst (λ (s : Sketch T). IsUnder key s) (sym e) is

  changed_under : (change : Change T) (old : Sketch T) (reply : Reply T) (new : Sketch T) → Changes eq input change old reply new → IsUnder key old → IsUnder key new
  changed_under (change.Add item weight) (Frequent s) reply new (t, does, e) is = is_under (Frequent t) new (added_key eq item weight s t reply does ∙ is) e
  changed_under (change.Add item weight) (CountU64 s) reply new (t, does, e) is = is_under (CountU64 t) new tt e
  changed_under (change.AddSigned item weight) (CountI64 s) reply new (t, does, e) is = is_under (CountI64 t) new tt e
  changed_under (change.Insert item) (Bloom s) reply new (r, e) is = is_under _ new tt e
  changed_under change.Reset (Frequent s) reply new (r, e) is = is_under _ new is e
  changed_under change.Reset (Bloom s) reply new (r, e) is = is_under _ new tt e
  changed_under change.Halve (CountU64 s) reply new (r, e) is = is_under _ new tt e
  changed_under (change.Decay numerator denominator) (CountU64 s) reply new (t, does, e) is = is_under (CountU64 t) new tt e
  changed_under _ old reply new step is = is_under old new is step.1

  joined_under : (join : Join) (other old : Sketch T) (reply : Reply T) (new : Sketch T) → Joins eq join other old reply new → IsUnder key old → IsUnder key new
  joined_under join.Merge (Frequent other) (Frequent s) reply new (t, does, e) is = is_under (Frequent t) new (joined_key eq other s t reply does ∙ is) e
  joined_under join.Merge (CountI64 other) (CountI64 s) reply new (t, does, e) is = is_under (CountI64 t) new tt e
  joined_under join.Merge (CountU64 other) (CountU64 s) reply new (t, does, e) is = is_under (CountU64 t) new tt e
  joined_under join.Union (Bloom other) (Bloom s) reply new (t, does, e) is = is_under (Bloom t) new tt e
  joined_under join.Intersect (Bloom other) (Bloom s) reply new (t, does, e) is = is_under (Bloom t) new tt e
  joined_under join.Difference (Bloom other) (Bloom s) reply new (t, does, e) is = is_under (Bloom t) new tt e
  joined_under _ other old reply new step is = is_under old new is step.1

  -- ---- the named sketches after an action

  altered_under : (change : Change T) (name : List ℕ) (found : Option (Sketch T)) (reply : Reply T) (old new : List (List ℕ × Sketch T)) → at_name name old ≡ found → OnSketch (Alters eq input change) name old reply new → AllUnder key old → AllUnder key new
  altered_under change name None reply old new e on all = same_under key old new all (rw e at on).1
  altered_under change name (Some sketch) reply old new e on all =
      let done = rw e at on in
      put_under key name done.0 old new all (changed_under change sketch reply done.0 done.1.own (found_under key name sketch old all e)) done.2

  apart_under : (join : Join) (into other : List ℕ) (sketch from : Sketch T) (t : Bool) (reply : Reply T) (old new : List (List ℕ × Sketch T)) → bytes_eq into other ≡ t → at_name into old ≡ Some sketch → JoinsApart eq join into other sketch from old reply new → AllUnder key old → AllUnder key new
  apart_under join into other sketch from true reply old new t e joins all = same_under key old new all (joins.itself ((bytes_eq-Decides into other).0 t)).1
  apart_under join into other sketch from false reply old new t e joins all =
      let done = joins.two (λ same. true≢false (sym ((bytes_eq-Decides into other).1 same) ∙ t)) in
      put_under key into done.0 old new all (joined_under join from sketch reply done.0 done.1.own (found_under key into sketch old all e)) done.2

  combined_under : (join : Join) (into other : List ℕ) (found more : Option (Sketch T)) (reply : Reply T) (old new : List (List ℕ × Sketch T)) → at_name into old ≡ found → at_name other old ≡ more → JoinsNamed eq join into other old reply new → AllUnder key old → AllUnder key new
  combined_under join into other None more reply old new e f joins all = same_under key old new all (rw e at joins).1
  combined_under join into other (Some sketch) None reply old new e f joins all = same_under key old new all (rw (e, f) at joins).1
  combined_under join into other (Some sketch) (Some from) reply old new e f joins all = apart_under join into other sketch from (bytes_eq into other) reply old new refl e (rw (e, f) at joins) all

  created_under : (shape : Shape) (name : List ℕ) (found : Option (Sketch T)) (reply : Reply T) (old new : List (List ℕ × Sketch T)) → at_name name old ≡ found → Creates eq key shape name old reply new → AllUnder key old → AllUnder key new
  created_under shape name (Some sketch) reply old new e step all = same_under key old new all (rw e at step).1
  created_under shape name None reply old new e step all =
      stores_under key (IsCreated eq key shape) (λ why. why ≡ refusal_of (fault_of shape)) name old new reply (λ sketch made. empty_under key shape sketch made.empty) all (rw e at step)

-- ---- the session after an action

module _ {T C : Type 0} (slot : ℕ) (eq : T → T → Bool) (input : T → List (List ℕ)) (codec : Codec C) (content : T → C) where
  sketches_under : (action : Action T) (reply : Reply T) (old new : SessionState T) → Performs slot eq input codec content old action reply new → AllUnder old.keys.table old.sketches → AllUnder old.keys.table new.sketches
  sketches_under (action.Create name shape) reply old new step all = created_under eq input old.keys.table shape name (at_name name old.sketches) reply old.sketches new.sketches refl step.0 all
  sketches_under (action.Alter name change) reply old new step all = altered_under eq input old.keys.table change name (at_name name old.sketches) reply old.sketches new.sketches refl step.0 all
  sketches_under (action.Combine into other join) reply old new step all = combined_under eq input old.keys.table join into other (at_name into old.sketches) (at_name other old.sketches) reply old.sketches new.sketches refl refl step.0 all
  sketches_under (action.Save name image) reply old new step all =
      makes slot eq input codec content (at_name name old.sketches) (at_name image old.images) (λ sketch. Writes codec content sketch image old reply new) reply old new (λ same. same_under old.keys.table old.sketches new.sketches all same.sketches) (λ sketch done. same_under old.keys.table old.sketches new.sketches all done.sketches) step
  sketches_under (action.Restore image name) reply old new step all =
      makes slot eq input codec content (at_name image old.images) (at_name name old.sketches) (λ saved. Reads eq codec content saved name old reply new) reply old new (λ same. same_under old.keys.table old.sketches new.sketches all same.sketches)
      (λ saved done. stores_under old.keys.table (IsRestored eq codec content old.keys.table saved) (IsReadRefusal codec saved.kind saved.bytes) name old.sketches new.sketches reply (λ sketch restored. restored.keyed) all done.outcome) step
  sketches_under (action.Load name kind bytes max_bytes) reply old new step all =
      loads slot eq input codec content kind bytes max_bytes name (at_name name old.sketches) reply old new refl (λ same. same_under old.keys.table old.sketches new.sketches all same.sketches)
      (λ done. stores_under old.keys.table (IsLoaded slot eq codec content old.keys.table kind bytes max_bytes) (IsLoadRefusal slot codec max_bytes kind bytes) name old.sketches new.sketches reply (λ sketch loaded. loaded.keyed) all done.outcome) step
  sketches_under (action.ShowImage image) reply old new step all = same_under old.keys.table old.sketches new.sketches all step.0.sketches
  sketches_under (action.Ask name item) reply old new step all = same_under old.keys.table old.sketches new.sketches all step.0.sketches
  sketches_under (action.GetStatus name) reply old new step all = same_under old.keys.table old.sketches new.sketches all step.0.sketches
  sketches_under (action.ListRows name error_type threshold) reply old new step all = same_under old.keys.table old.sketches new.sketches all step.0.sketches

  pub one_key_kept : (action : Action T) (reply : Reply T) (old new : SessionState T) → Performs slot eq input codec content old action reply new → HasOneKey old → HasOneKey new
  one_key_kept action reply old new step all =
      subst (λ (keys : SessionKeys). AllUnder keys.table new.sketches) (sym (keys_kept slot eq input codec content action reply old new step)) (sketches_under action reply old new step all)
