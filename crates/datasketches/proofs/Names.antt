-- Values by their names.
use Rattle.std.proofs.Common.{◌≡◌, ◌≢◌, ℕ, zero, suc, ◌+◌, ◌<◌, Bool, true, false, List, [], ◌∷◌, ◌++◌, length, get_or, set, take, Option, Some, None, cond, refl, sym, ◌∙◌, ap, subst, arith}
use Rattle.std.specs.HashMap.{HashMap, UpdatesBy}
use Rattle.std.specs.List.{slice_get}
use Rattle.std.specs.Option.{IfSome, is_some}
use Rattle.std.specs.Str.{bytes_eq}
use Rattle.std.specs.String.{string_bytes, string_eq}
use Rattle.std.proofs.Math.Seq.{take-append_seam}
use Rattle.std.proofs.lemmas.List.{length-set, length-append}
use Rattle.std.proofs.lemmas.Map.Text.{hash_map_updates_text}
use Rattle.std.proofs.lemmas.Option.{slice_get-get_or}
use Rattle.std.proofs.lemmas.Slice.Eq.{bytes_eq-Decides}
use Rattle.datasketches.specs.Names.{Name, Named, index_of, at_index, with_first, listed, AreIndices, at_name, Puts, AreSame}

none_from : {V : Type 0} (o : Option V) → is_some o ≡ false → o ≡ None
none_from None e = refl
none_from (Some x) e = cc

-- a name that is not contained, by the bytes that were asked for
pub free_name : {V : Type 0} (asked name : List ℕ) (values : List (List ℕ × V)) (contained : Bool) → contained ≡ false → contained ≡ is_some (at_name asked values) → asked ≡ name → at_name name values ≡ None
free_name asked name values contained not is same =
    none_from (at_name name values) (subst (λ (n : List ℕ). is_some (at_name n values) ≡ false) same (sym is ∙ not))

-- ---- indices of a list

-- after a write at a index, that index and the others
pub get_set : {X : Type 0} (xs : List X) (i : ℕ) (x : X) → i < length xs → slice_get (set xs i x) i ≡ Some x
get_set [] i x h = absurd (omega (arith, h))
get_set (y ∷ ys) zero x h = refl
get_set (y ∷ ys) (suc i) x h = get_set ys i x (omega (arith, h))

pub get_set_other : {X : Type 0} (xs : List X) (i j : ℕ) (x : X) → i ≢ j → slice_get (set xs i x) j ≡ slice_get xs j
get_set_other [] i j x h = refl
get_set_other (y ∷ ys) zero zero x h = absurd (h refl)
get_set_other (y ∷ ys) zero (suc j) x h = refl
get_set_other (y ∷ ys) (suc i) zero x h = refl
get_set_other (y ∷ ys) (suc i) (suc j) x h = get_set_other ys i j x (λ e. h (ap suc e))

-- the index after the last, and those before it
get_last : {X : Type 0} (xs : List X) (x : X) → slice_get (xs ++ x ∷ []) (length xs) ≡ Some x
get_last [] x = refl
get_last (y ∷ ys) x = get_last ys x

get_before : {X : Type 0} (xs : List X) (x : X) (i : ℕ) → i < length xs → slice_get (xs ++ x ∷ []) i ≡ slice_get xs i
get_before [] x i h = absurd (omega (arith, h))
get_before (y ∷ ys) x zero h = refl
get_before (y ∷ ys) x (suc i) h = get_before ys x i (omega (arith, h))

-- ---- names and their indices

-- equal maps have equal entries and hash alike
pub seen : {V : Type 0} {m n : Named V} → m ≡ n → m.entries ≡ n.entries
seen e = ap (λ m. m.entries) e

pub hashed : {V : Type 0} {m n : Named V} → m ≡ n → m.hasher ≡ n.hasher
hashed e = ap (λ m. m.hasher) e

-- a name passes its own test, and no other does
own_name : (name : List ℕ) → bytes_eq name name ≡ true
own_name name = (bytes_eq-Decides name name).1 refl

-- a index that was found is one of the values'
pub index_below : (entries : List (Name × ℕ)) (count : ℕ) (name : List ℕ) (index : ℕ) → AreIndices entries count → Some index ≡ index_of name entries → index < count
index_below entries count name index are e = subst (λ (o : Option ℕ). IfSome o (λ p. p < count)) (sym e) (are.below name)

first_here : {V : Type 0} → (values : List V) (name key : List ℕ) (index : ℕ) (found : Option V) (rest : List (List ℕ × V)) → bytes_eq name key ≡ true → slice_get values index ≡ found → index < length values → at_name name (with_first key found rest) ≡ found
first_here values name key index (Some value) rest e f below = rw e refl
first_here [] name key index None rest e f below = absurd (omega (arith, below))
first_here (s ∷ ss) name key index None rest e f below = let here = slice_get-get_or (s ∷ ss) index s below in cc

skips : {V : Type 0} → (name key : List ℕ) (found : Option V) (rest : List (List ℕ × V)) → bytes_eq name key ≡ false → at_name name (with_first key found rest) ≡ at_name name rest
skips name key None rest e = refl
skips name key (Some value) rest e = rw e refl

by_index_case : {V : Type 0} → (entries : List (Name × ℕ)) (values : List V) (name key : List ℕ) (index : ℕ) (t : Bool) → bytes_eq name key ≡ t
    → IfSome (cond t (Some index) (index_of name entries)) (λ p. p < length values)
    → (IfSome (index_of name entries) (λ p. p < length values) → at_name name (listed entries values) ≡ at_index (index_of name entries) values)
    → at_name name (with_first key (slice_get values index) (listed entries values)) ≡ at_index (cond t (Some index) (index_of name entries)) values
by_index_case entries values name key index true e below more = first_here values name key index (slice_get values index) (listed entries values) e refl below
by_index_case entries values name key index false e below more = skips name key (slice_get values index) (listed entries values) e ∙ more below

-- a look-up by the name's index
pub by_index : {V : Type 0} → (entries : List (Name × ℕ)) (values : List V) (name : List ℕ) → IfSome (index_of name entries) (λ p. p < length values) → at_name name (listed entries values) ≡ at_index (index_of name entries) values
by_index [] values name below = refl
by_index (entry ∷ entries) values name below = by_index_case entries values name (string_bytes entry.0) entry.1 (bytes_eq name (string_bytes entry.0)) refl below (by_index entries values name)

get_some : {X : Type 0} (xs : List X) (i : ℕ) → i < length xs → is_some (slice_get xs i) ≡ true
get_some [] i h = absurd (omega (arith, h))
get_some (x ∷ xs) zero h = refl
get_some (x ∷ xs) (suc i) h = get_some xs i (omega (arith, h))

place_some : {V : Type 0} → (values : List V) (found : Option ℕ) → IfSome found (λ p. p < length values) → is_some (at_index found values) ≡ is_some found
place_some values None below = refl
place_some values (Some p) below = get_some values p below

-- whether a name has a value
pub is_named : {V : Type 0} → (entries : List (Name × ℕ)) (values : List V) (now : List (List ℕ × V)) (name : List ℕ) → AreIndices entries (length values) → listed entries values ≡ now → is_some (at_name name now) ≡ is_some (index_of name entries)
is_named entries values now name are view = ap is_some (ap (at_name name) (sym view) ∙ by_index entries values name (are.below name)) ∙ place_some values (index_of name entries) (are.below name)

-- the value at a index that was found
pub value_found : {V : Type 0} → (entries : List (Name × ℕ)) (values : List V) (now : List (List ℕ × V)) (name : List ℕ) (index : ℕ) (d : V) → AreIndices entries (length values) → listed entries values ≡ now → Some index ≡ index_of name entries → at_name name now ≡ Some (get_or values index d)
value_found entries values now name index d are view e =
    ap (at_name name) (sym view) ∙ by_index entries values name (are.below name) ∙ ap (λ (o : Option ℕ). at_index o values) (sym e) ∙ slice_get-get_or values index d (index_below entries (length values) name index are e)

-- the same, by what stands at the index
pub placed_at : {V : Type 0} → (entries : List (Name × ℕ)) (values : List V) (now : List (List ℕ × V)) (name : List ℕ) (index : ℕ) (value : V) → AreIndices entries (length values) → listed entries values ≡ now → Some index ≡ index_of name entries → slice_get values index ≡ Some value → at_name name now ≡ Some value
placed_at entries values now name index value are view e here =
    ap (at_name name) (sym view) ∙ by_index entries values name (are.below name) ∙ ap (λ (o : Option ℕ). at_index o values) (sym e) ∙ here

-- one name has one index
pub one_index : (entries : List (Name × ℕ)) (name other : List ℕ) (index from : ℕ) → name ≡ other → Some index ≡ index_of name entries → Some from ≡ index_of other entries → index ≡ from
one_index entries name other index from same e f = let both : Some index ≡ Some from = e ∙ ap (λ (n : List ℕ). index_of n entries) same ∙ sym f in cc

-- no index was found
pub value_missing : {V : Type 0} → (entries : List (Name × ℕ)) (values : List V) (now : List (List ℕ × V)) (name : List ℕ) → AreIndices entries (length values) → listed entries values ≡ now → None ≡ index_of name entries → at_name name now ≡ None
value_missing entries values now name are view e = ap (at_name name) (sym view) ∙ by_index entries values name (are.below name) ∙ ap (λ (o : Option ℕ). at_index o values) (sym e)

written_other : {V : Type 0} → (values : List V) (index : ℕ) (value : V) (found : Option ℕ) → (found ≢ Some index) → at_index found (set values index value) ≡ at_index found values
written_other values index value None h = refl
written_other values index value (Some j) h = get_set_other values index j value (λ e. h (ap Some (sym e)))

written_case : {V : Type 0} → (entries : List (Name × ℕ)) (values : List V) (name other : List ℕ) (index : ℕ) (value : V) (t : Bool) → bytes_eq name other ≡ t → AreIndices entries (length values) → Some index ≡ index_of name entries
    → at_index (index_of other entries) (set values index value) ≡ cond t (Some value) (at_index (index_of other entries) values)
written_case entries values name other index value true t are e =
    let same : name ≡ other = (bytes_eq-Decides name other).0 t in
    ap (λ (n : List ℕ). at_index (index_of n entries) (set values index value)) (sym same) ∙ ap (λ (o : Option ℕ). at_index o (set values index value)) (sym e)
    ∙ get_set values index value (index_below entries (length values) name index are e)
written_case entries values name other index value false t are e =
    written_other values index value (index_of other entries) (λ found. (let same = are.apart name other index (sym e) found in let own = (bytes_eq-Decides name other).1 same in cc))

-- a write at the index of a name
pub written : {V : Type 0} → (entries : List (Name × ℕ)) (values : List V) (now : List (List ℕ × V)) (name : List ℕ) (index : ℕ) (value : V) → AreIndices entries (length values) → listed entries values ≡ now → Some index ≡ index_of name entries → Puts name value now (listed entries (set values index value))
written {V} entries values now name index value are view e = λ other.
    let below : IfSome (index_of other entries) (λ p. p < length (set values index value)) = subst (λ (n : ℕ). IfSome (index_of other entries) (λ p. p < n)) (sym (length-set values index value)) (are.below other) in
    by_index entries (set values index value) other below ∙ written_case entries values name other index value (bytes_eq name other) refl are e
    ∙ ap (λ (o : Option V). cond (bytes_eq name other) (Some value) o) (sym (by_index entries values other (are.below other)) ∙ ap (at_name other) view)

-- ---- a name that is given the index after the last

-- where each name stands then
abbrev pub IsPlaced : List ℕ → ℕ → List (Name × ℕ) → List (Name × ℕ) → Type 0
IsPlaced name index old new = (other : List ℕ) → index_of other new ≡ cond (bytes_eq name other) (Some index) (index_of other old)

pub placed : {S : Type 0} (name : List ℕ) (index : ℕ) (old new : HashMap Name ℕ S) → UpdatesBy string_eq (λ (k : Name). bytes_eq name (string_bytes k)) old new (Some index) → IsPlaced name index old.entries new.entries
placed name index old new u = hash_map_updates_text name old new (Some index) u

below_more : (found : Option ℕ) (t : Bool) (count : ℕ) → IfSome found (λ p. p < count) → IfSome (cond t (Some count) found) (λ p. p < count + 1)
below_more found true count h = omega arith
below_more None false count h = tt
below_more (Some p) false count h = omega (arith, h)

new_below : (old new : List (Name × ℕ)) (count : ℕ) (name other : List ℕ) → AreIndices old count → IsPlaced name count old new → IfSome (index_of other new) (λ p. p < count + 1)
new_below old new count name other are is = subst (λ (o : Option ℕ). IfSome o (λ p. p < count + 1)) (sym (is other)) (below_more (index_of other old) (bytes_eq name other) count (are.below other))

not_last : (old : List (Name × ℕ)) (count : ℕ) (name : List ℕ) → AreIndices old count → index_of name old ≢ Some count
not_last old count name are e = let less = index_below old count name count are (sym e) in omega (arith, less)

new_apart : (old : List (Name × ℕ)) (count : ℕ) (name a b : List ℕ) (index : ℕ) (s t : Bool) → bytes_eq name a ≡ s → bytes_eq name b ≡ t → AreIndices old count
    → cond s (Some count) (index_of a old) ≡ Some index → cond t (Some count) (index_of b old) ≡ Some index → a ≡ b
new_apart old count name a b index true true s t are e f = sym ((bytes_eq-Decides name a).0 s) ∙ (bytes_eq-Decides name b).0 t
new_apart old count name a b index true false s t are e f = absurd (not_last old count b are (f ∙ sym e))
new_apart old count name a b index false true s t are e f = absurd (not_last old count a are (e ∙ sym f))
new_apart old count name a b index false false s t are e f = are.apart a b index e f

-- the indices are still those of the values
pub still_places : (old new : List (Name × ℕ)) (count : ℕ) (name : List ℕ) → AreIndices old count → IsPlaced name count old new → AreIndices new (count + 1)
still_places old new count name are is = record {
  below = λ other. new_below old new count name other are is;
  apart = λ a b index e f. new_apart old count name a b index (bytes_eq name a) (bytes_eq name b) refl refl are (sym (is a) ∙ e) (sym (is b) ∙ f);
}

pushed_case : {V : Type 0} → (values : List V) (value : V) (t : Bool) (found : Option ℕ) → IfSome found (λ p. p < length values)
    → at_index (cond t (Some (length values)) found) (values ++ value ∷ []) ≡ cond t (Some value) (at_index found values)
pushed_case values value true found h = get_last values value
pushed_case values value false None h = refl
pushed_case values value false (Some p) h = get_before values value p h

-- a value was added under a name
pub added : {V : Type 0} → (old new : List (Name × ℕ)) (values : List V) (now : List (List ℕ × V)) (name : List ℕ) (value : V) → AreIndices old (length values) → listed old values ≡ now → IsPlaced name (length values) old new → Puts name value now (listed new (values ++ value ∷ []))
added {V} old new values now name value are view is = λ other.
    let size : length values + 1 ≡ length (values ++ value ∷ []) = sym (length-append values (value ∷ [])) in
    let below = subst (λ (n : ℕ). IfSome (index_of other new) (λ p. p < n)) size (new_below old new (length values) name other are is) in
    by_index new (values ++ value ∷ []) other below ∙ ap (λ (o : Option ℕ). at_index o (values ++ value ∷ [])) (is other) ∙ pushed_case values value (bytes_eq name other) (index_of other old) (are.below other)
    ∙ ap (λ (o : Option V). cond (bytes_eq name other) (Some value) o) (sym (by_index old values other (are.below other)) ∙ ap (at_name other) view)

-- nothing was added
pub not_added : {V : Type 0} → (old new : List (Name × ℕ)) (before after : List V) (now : List (List ℕ × V)) → listed old before ≡ now → new ≡ old → after ≡ before → AreSame now (listed new after)
not_added {V} old new before after now view e s = λ name. ap (λ (entries : List (Name × ℕ)). at_name name (listed entries after)) e ∙ ap (λ (values : List V). at_name name (listed old values)) s ∙ ap (at_name name) view

-- a last element that was pushed is taken off
pub taken_off : {V : Type 0} → (values pushed left : List V) (value : V) (index : ℕ) → pushed ≡ values ++ value ∷ [] → index ≡ length values → left ≡ take index pushed → left ≡ values
taken_off {V} values pushed left value index p e l = l ∙ ap (λ (n : ℕ). take n pushed) e ∙ ap (take (length values)) p ∙ take-append_seam values (value ∷ [])
