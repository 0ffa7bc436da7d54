-- Commands on sketches by their names.
use Rattle.std.proofs.Common.{◌≡◌, ◌≢◌, ℕ, ◌-◌, ◌<◌, true, List, ◌++◌, length, get_or, set, Option, Some, None, Result, Ok, Err, refl, sym, ◌∙◌, ap, arith}
use Rattle.std.specs.Prelude.{⊤, Bool, OnOk, OnErr}
use Rattle.std.specs.Option.{is_some}
use Rattle.std.specs.List.{slice_get}
use Rattle.std.proofs.lemmas.Bool.{true≢false, false≢true}
use Rattle.std.proofs.lemmas.List.{length-append, set-append_left, set-append_right, get_or_append_left, get_or-append_right}
use Rattle.std.proofs.lemmas.Option.{slice_get-get_or}
use Rattle.datasketches.specs.Actions.{Join}
use Rattle.datasketches.specs.declared.reply.Refusal.{Refusal}
use Rattle.datasketches.specs.declared.reply.Refusal.TheVariants.{NoSuchName, SameName}
use Rattle.datasketches.specs.declared.reply.Reply.{Reply}
use Rattle.datasketches.specs.declared.reply.Reply.TheVariants.{Refused}
use Rattle.datasketches.specs.declared.sketch.Sketch.{Sketch}
use Rattle.datasketches.specs.Histories.{History, joined}
use Rattle.datasketches.specs.Joining.{Joins}
use Rattle.datasketches.specs.Names.{at_name, Puts}
use Rattle.datasketches.specs.Indices.{JoinsAt}
use Rattle.datasketches.specs.Replies.{done_or}
use Rattle.datasketches.specs.Stands.{Carries, CarriesBoth, Does, DoesWith}
use Rattle.datasketches.specs.Steps.{OnSketch, JoinsNamed}

-- ---- one sketch

module _ {T : Type 0} where
  -- a change, where the name has no sketch, and where it has one
  pub on_none : (DoesThis : Sketch T → Reply T → Sketch T → Type 0) (name : List ℕ) (old : List (List ℕ × Sketch T)) → at_name name old ≡ None → OnSketch DoesThis name old (Refused NoSuchName) old
  on_none DoesThis name old h = rw h (refl, λ _. refl)

  pub on_some : (DoesThis : Sketch T → Reply T → Sketch T → Type 0) (name : List ℕ) (old new : List (List ℕ × Sketch T)) (reply : Reply T) (before after : Sketch T) → at_name name old ≡ Some before → DoesThis before reply after → Puts name after old new → OnSketch DoesThis name old reply new
  on_some DoesThis name old new reply before after h does puts = rw h (after, does, puts)

module _ {T : Type 0} (eq : T → T → Bool) where
  -- a change of a sketch, by the clauses of the call
  pub does : (Own : Sketch T → Reply T → Sketch T → Type 0) (grown : History T → History T) (old new : Sketch T) (result : Result ⊤ Refusal) → Own old (done_or result) new → OnOk result (Carries eq grown old new) → OnErr result (new ≡ old) → Does eq Own grown old (done_or result) new
  does Own grown old new (Ok u) own carries err = record { own = own; carries = λ _. carries; refused = λ h. absurd (false≢true h) }
  does Own grown old new (Err refusal) own carries err = record { own = own; carries = λ h. absurd (true≢false h); refused = λ _. err }

  pub does_with : (Own : Sketch T → Reply T → Sketch T → Type 0) (both : History T → History T → History T) (other old new : Sketch T) (result : Result ⊤ Refusal) → Own old (done_or result) new → OnOk result (CarriesBoth eq both old other new) → OnErr result (new ≡ old) → DoesWith eq Own both other old (done_or result) new
  does_with Own both other old new (Ok u) own carries err = record { own = own; carries = λ _. carries; refused = λ h. absurd (false≢true h) }
  does_with Own both other old new (Err refusal) own carries err = record { own = own; carries = λ h. absurd (true≢false h); refused = λ _. err }

  -- ---- two sketches

  none_case : (join : Join) (into other : List ℕ) (old : List (List ℕ × Sketch T)) (found : Option (Sketch T)) → at_name into old ≡ found → at_name other old ≡ None → JoinsNamed eq join into other old (Refused NoSuchName) old
  none_case join into other old None h k = rw h (refl, λ _. refl)
  none_case join into other old (Some sketch) h k = rw (h, k) (refl, λ _. refl)

  -- one of the names has no sketch
  pub joins_into_none : (join : Join) (into other : List ℕ) (old : List (List ℕ × Sketch T)) → at_name into old ≡ None → JoinsNamed eq join into other old (Refused NoSuchName) old
  joins_into_none join into other old h = rw h (refl, λ _. refl)

  pub joins_from_none : (join : Join) (into other : List ℕ) (old : List (List ℕ × Sketch T)) → at_name other old ≡ None → JoinsNamed eq join into other old (Refused NoSuchName) old
  joins_from_none join into other old h = none_case join into other old (at_name into old) refl h

  itself_case : (join : Join) (into other : List ℕ) (old : List (List ℕ × Sketch T)) (found more : Option (Sketch T)) → at_name into old ≡ found → at_name other old ≡ more → is_some found ≡ true → is_some more ≡ true → into ≡ other → JoinsNamed eq join into other old (Refused SameName) old
  itself_case join into other old (Some sketch) (Some from) h k a b same = rw (h, k) (record { itself = λ _. (refl, λ _. refl); two = λ apart. absurd (apart same) })
  itself_case join into other old None more h k a b same = absurd (true≢false (sym a))
  itself_case join into other old (Some sketch) None h k a b same = absurd (true≢false (sym b))

  -- both names are one
  pub joins_itself : (join : Join) (into other : List ℕ) (old : List (List ℕ × Sketch T)) → is_some (at_name into old) ≡ true → is_some (at_name other old) ≡ true → into ≡ other → JoinsNamed eq join into other old (Refused SameName) old
  joins_itself join into other old a b same = itself_case join into other old (at_name into old) (at_name other old) refl refl a b same

  -- two sketches
  pub joins_two : (join : Join) (into other : List ℕ) (old new : List (List ℕ × Sketch T)) (reply : Reply T) (sketch from after : Sketch T) → at_name into old ≡ Some sketch → at_name other old ≡ Some from → into ≢ other → DoesWith eq (Joins eq join from) (joined join) from sketch reply after → Puts into after old new → JoinsNamed eq join into other old reply new
  joins_two join into other old new reply sketch from after h k apart does puts = rw (h, k) (record { itself = λ same. absurd (apart same); two = λ _. (after, does, puts) })

-- ---- two indices of a list that is cut in two

-- a index of the first part
in_front : {V : Type 0} (whole a b : List V) (i : ℕ) (d : V) → whole ≡ a ++ b → i < length a → slice_get whole i ≡ Some (get_or a i d)
in_front {V} whole a b i d w h =
    ap (λ (l : List V). slice_get l i) w ∙ slice_get-get_or (a ++ b) i d (omega (arith, h, length-append a b)) ∙ ap Some (get_or_append_left a b d i h)

zero_left : (j : ℕ) → j - j ≡ 0
zero_left j = omega arith

-- the first index of the second part
in_back : {V : Type 0} (whole a b : List V) (j : ℕ) (d : V) → whole ≡ a ++ b → length a ≡ j → j < length whole → slice_get whole j ≡ Some (get_or b 0 d)
in_back {V} whole a b j d w n h =
    let size : length whole ≡ length (a ++ b) = ap length w in
    ap (λ (l : List V). slice_get l j) w ∙ slice_get-get_or (a ++ b) j d (omega (arith, h, size))
    ∙ ap Some (get_or-append_right a b j j d n (omega arith) ∙ ap (λ (k : ℕ). get_or b k d) (zero_left j))

module _ {T : Type 0} (eq : T → T → Bool) where
  pub front_joined : (join : Join) (whole a b : List (Sketch T)) (i j : ℕ) (e o after : Sketch T) (reply : Reply T) →
      whole ≡ a ++ b → length a ≡ j → i < j → j < length whole → e ≡ get_or a i e → o ≡ get_or b 0 o → DoesWith eq (Joins eq join (get_or b 0 o)) (joined join) (get_or b 0 o) (get_or a i e) reply after → JoinsAt eq join whole i j reply (set a i after ++ b)
  front_joined join whole a b i j e o after reply w n less below he ho does = record {
    sketch = get_or a i e;
    from = get_or b 0 o;
    after = after;
    into_is = in_front whole a b i e w (omega (arith, n, less));
    from_is = in_back whole a b j o w n below;
    does = does;
    new_is = sym (ap (λ (l : List (Sketch T)). set l i after) w ∙ set-append_left a b i after (omega (arith, n, less)));
  }

  pub back_joined : (join : Join) (whole a b : List (Sketch T)) (i j : ℕ) (e o after : Sketch T) (reply : Reply T) →
      whole ≡ a ++ b → length a ≡ i → j < i → i < length whole → e ≡ get_or b 0 e → o ≡ get_or a j o → DoesWith eq (Joins eq join (get_or a j o)) (joined join) (get_or a j o) (get_or b 0 e) reply after → JoinsAt eq join whole i j reply (a ++ set b 0 after)
  back_joined join whole a b i j e o after reply w n less below he ho does = record {
    sketch = get_or b 0 e;
    from = get_or a j o;
    after = after;
    into_is = in_back whole a b i e w n below;
    from_is = in_front whole a b j o w (omega (arith, n, less));
    does = does;
    new_is = sym (ap (λ (l : List (Sketch T)). set l i after) w ∙ set-append_right a b i i after n (omega arith) ∙ ap (λ (k : ℕ). a ++ set b k after) (zero_left i));
  }
