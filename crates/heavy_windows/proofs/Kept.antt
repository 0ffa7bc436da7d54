-- How many windows a tenant has, of which size, and under which key.
use Rattle.std.proofs.Common.{◌≡◌, ℕ, ◌+◌, ◌-◌, ◌<◌, ◌≤◌, nat_lt, Bool, true, false, ◌||◌, if◌then◌else◌, List, [], ◌∷◌, ◌++◌, length, take, drop, All, Option, Some, None, Result, Ok, Err, OnOk, OnErr, refl, sym, ◌∙◌, ap, subst, arith, ⊎_elim}
use Rattle.std.proofs.lemmas.Bool.{ltb-false, lt-ltb, le-ltb, cases_lt}
use Rattle.std.proofs.lemmas.List.{length-append, length-drop, length-take}
use Rattle.std.proofs.lemmas.List.Elements.{All-append, All-drop, All-take}
use Rattle.counter_table.specs.declared.table_key.TableKey.{TableKey}
use Rattle.sketch_base.specs.Checks.{or_else}
use Rattle.sketch_base.specs.declared.fault.Fault.{Fault}
use Rattle.sketch_base.specs.declared.fault.Fault.TheVariants.{BadWindows}
use Rattle.sketch_frequencies.specs.Sizes.{size_fault}
use Rattle.sketch_frequencies.specs.State.{FrequentState}
use Rattle.sketch_frequencies.specs.Steps.{Steps}
use Rattle.heavy_windows.specs.Fresh.{fresh_state}
use Rattle.heavy_windows.specs.Newest.{newest, latest, turned}
use Rattle.heavy_windows.specs.Sizes.{limits_fault}
use Rattle.heavy_windows.specs.State.{AreKept, HasSizeAndKey}
use Rattle.heavy_windows.specs.Steps.{AddsToNewest}

neither : (a b : Bool) → (a || b) ≡ false → a ≡ false
neither true b e = e
neither false b e = refl

no_fault : (b : Bool) (fault : Fault) (other : Option Fault) → or_else (if b then Some fault else None) other ≡ None
    → (b ≡ false) × (other ≡ None)
no_fault true fault other e = absurd (cc e)
no_fault false fault other e = (refl, e)

-- the limits of windows that are not refused
limit_is_some : (limit max_map_size : ℕ) → limits_fault limit max_map_size ≡ None → 0 < limit
limit_is_some limit max_map_size e =
    let n = no_fault (nat_lt limit 1 || nat_lt 1024 limit) BadWindows (size_fault max_map_size) e in
    ltb-false limit 1 (neither (nat_lt limit 1) (nat_lt 1024 limit) n.0)

pub size_is_good : (limit max_map_size : ℕ) → limits_fault limit max_map_size ≡ None → size_fault max_map_size ≡ None
size_is_good limit max_map_size e = (no_fault (nat_lt limit 1 || nat_lt 1024 limit) BadWindows (size_fault max_map_size) e).1

module _ {T : Type 0} where
  one_kept : (max_map_size : ℕ) (key : TableKey) (window : FrequentState T) → HasSizeAndKey max_map_size key window
      → All (HasSizeAndKey max_map_size key) (window ∷ [])
  one_kept max_map_size key window e = grind (arith, e)

  kept_one : (limit max_map_size : ℕ) (key : TableKey) (window : FrequentState T) → 0 < limit → HasSizeAndKey max_map_size key window
      → AreKept limit max_map_size key (window ∷ [])
  kept_one limit max_map_size key window some e = record {
    some = omega arith;
    few = some;
    each = one_kept max_map_size key window e;
  }

  kept_latest : (limit max_map_size : ℕ) (key : TableKey) (windows : List (FrequentState T)) (window : FrequentState T)
      → AreKept limit max_map_size key windows → HasSizeAndKey max_map_size key window
      → AreKept limit max_map_size key (latest limit (windows ++ window ∷ []))
  kept_latest limit max_map_size key windows window is e =
      let all = windows ++ window ∷ [] in
      let each = All-append (HasSizeAndKey max_map_size key) windows (window ∷ []) is.each (one_kept max_map_size key window e) in
      let n : length all ≡ length windows + 1 = length-append windows (window ∷ []) in
      let some = is.some in
      let few = is.few in
      ⊎_elim
      (λ (over : limit < length all).
      subst (λ (b : Bool). AreKept limit max_map_size key (if b then drop 1 all else all)) (sym (lt-ltb limit (length all) over))
      (record {
        some = omega (arith, some, n, length-drop 1 all);
        few = omega (arith, few, n, length-drop 1 all);
        each = All-drop (HasSizeAndKey max_map_size key) 1 all each;
      }))
      (λ (fits : length all ≤ limit).
      subst (λ (b : Bool). AreKept limit max_map_size key (if b then drop 1 all else all)) (sym (le-ltb limit (length all) fits))
      (record { some = omega (arith, n); few = fits; each = each }))
      (cases_lt limit (length all))

  pub kept_turned : (limit max_map_size : ℕ) (key : TableKey) (windows : List (FrequentState T)) (window : FrequentState T)
      → AreKept limit max_map_size key windows → HasSizeAndKey max_map_size key window
      → AreKept limit max_map_size key (turned limit window windows)
  kept_turned limit max_map_size key [] window is e = is
  kept_turned limit max_map_size key (w ∷ ws) window is e = kept_latest limit max_map_size key (w ∷ ws) window is e

  pub kept_either : {E : Type 0} (limit max_map_size : ℕ) (key : TableKey) (old new : List (FrequentState T)) (window : FrequentState T)
      (r : Result (Unit {0}) E) → AreKept limit max_map_size key old → HasSizeAndKey max_map_size key window
      → OnOk r (new ≡ turned limit window old) → OnErr r (new ≡ old) → AreKept limit max_map_size key new
  kept_either limit max_map_size key old new window (Ok x) is e done same =
      subst (λ ws. AreKept limit max_map_size key ws) (sym done) (kept_turned limit max_map_size key old window is e)
  kept_either limit max_map_size key old new window (Err x) is e done same = subst (λ ws. AreKept limit max_map_size key ws) (sym same) is

  -- a known tenant has windows
  pub known_has : (limit max_map_size : ℕ) (key : TableKey) (windows : List (FrequentState T))
      → AreKept limit max_map_size key windows → windows ≡ [] → ⊥
  known_has limit max_map_size key windows is e =
      let none : length windows ≡ 0 = ap length e in
      let some = is.some in
      omega (arith, none, some)

  newest_kept : (max_map_size : ℕ) (key : TableKey) (fresh : FrequentState T) (windows : List (FrequentState T))
      → HasSizeAndKey max_map_size key fresh → All (HasSizeAndKey max_map_size key) windows
      → HasSizeAndKey max_map_size key (newest fresh windows)
  newest_kept max_map_size key fresh [] e each = e
  newest_kept max_map_size key fresh (w ∷ ws) e each =
      newest_kept max_map_size key w ws (each 0 w (omega arith)) (All-drop (HasSizeAndKey max_map_size key) 1 (w ∷ ws) each)

  pub kept_added : (eq : T → T → Bool) (limit max_map_size : ℕ) (key : TableKey) (fresh : FrequentState T) (old new : List (FrequentState T))
      (item : T) (weight : ℕ) → AreKept limit max_map_size key old → HasSizeAndKey max_map_size key fresh
      → AddsToNewest eq fresh old item weight new → AreKept limit max_map_size key new
  kept_added eq limit max_map_size key fresh old new item weight is e adds =
      let front = take (length old - 1) old in
      let n : length (front ++ adds.window ∷ []) ≡ length front + 1 = length-append front (adds.window ∷ []) in
      let some = is.some in
      let few = is.few in
      let newest = newest_kept max_map_size key fresh old e is.each in
      let own : HasSizeAndKey max_map_size key adds.window =
      record { size_is = adds.step.max_size ∙ newest.size_is; key_is = adds.step.key ∙ newest.key_is } in
      subst (λ ws. AreKept limit max_map_size key ws) (sym adds.windows)
      (record {
        some = omega (arith, n);
        few = omega (arith, n, some, few, length-take (length old - 1) old);
        each = All-append (HasSizeAndKey max_map_size key) front (adds.window ∷ [])
            (All-take (HasSizeAndKey max_map_size key) (length old - 1) old is.each)
            (one_kept max_map_size key adds.window own);
      })

  pub kept_added_either : {E : Type 0} (eq : T → T → Bool) (limit max_map_size : ℕ) (key : TableKey) (fresh : FrequentState T)
      (old new : List (FrequentState T)) (item : T) (weight : ℕ) (r : Result (Unit {0}) E)
      → AreKept limit max_map_size key old → HasSizeAndKey max_map_size key fresh
      → OnOk r ((any : FrequentState T) → AddsToNewest eq any old item weight new) → OnErr r (new ≡ old)
      → AreKept limit max_map_size key new
  kept_added_either eq limit max_map_size key fresh old new item weight (Ok x) is e adds same =
      kept_added eq limit max_map_size key fresh old new item weight is e (adds fresh)
  kept_added_either eq limit max_map_size key fresh old new item weight (Err x) is e adds same =
      subst (λ ws. AreKept limit max_map_size key ws) (sym same) is

  -- a first window
  pub kept_first : (eq : T → T → Bool) (limit max_map_size : ℕ) (key : TableKey) (s s' : FrequentState T) (item : T) (weight : ℕ)
      → limits_fault limit max_map_size ≡ None → s ≡ fresh_state max_map_size key → Steps eq s item weight s'
      → AreKept limit max_map_size key (s' ∷ [])
  kept_first eq limit max_map_size key s s' item weight good e step =
      kept_one limit max_map_size key s' (limit_is_some limit max_map_size good) (record {
        size_is = step.max_size ∙ ap (λ w. w.max_size) e;
        key_is = step.key ∙ ap (λ w. w.key) e;
      })
