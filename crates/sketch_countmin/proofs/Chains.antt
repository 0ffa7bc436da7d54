-- Updates and merges one after another.
use Rattle.std.proofs.Common.{◌≡◌, ℕ, ◌+◌, ◌<◌, ◌≤◌, ℤ, List, [], ◌∷◌, ◌++◌, Bor, All, length, map, take, get_or, refl, sym, ap, ◌∙◌, subst, arith}
use Rattle.std.specs.Prelude.{Result, Ok, Err, IsOk, OnOk}
use Rattle.std.specs.List.{zip, AllZip}
use Rattle.std.proofs.lemmas.Bool.{false≢true}
use Rattle.std.proofs.lemmas.List.{map-append, take_more, take_all, get_or-map, length-map}
use Rattle.std.proofs.lemmas.Slice.Zip.{length-zip, get_or-zip}
use Rattle.sketch_countmin.specs.History.{CountHistory, each_updated, all_merged}
use Rattle.sketch_countmin.specs.History.CountHistory.{Update, Merge}
use Rattle.sketch_countmin.specs.Stands.{StandsFor, Extends}
use Rattle.sketch_countmin.specs.State.{CountState, SameShape, Counts, CountsEach, Joins, JoinsEach}
use Rattle.sketch_countmin.proofs.Standing.{stands_counted, stands_joined}

-- what is said of a call that was done
pub ok_said : {V E : Type 0} (r : Result V E) (P : Type 0) → IsOk r → OnOk r P → P
ok_said (Ok x) P is said = said
ok_said (Err e) P is said = absurd (false≢true is)

-- ---- weights of items

-- one more is counted
counts_each_more : (old : CountState) (pairs : List (List ℕ × ℤ)) (mid : CountState) (bytes : List ℕ) (w : ℤ) (new : CountState) → CountsEach old pairs mid → Counts mid bytes w new
    → CountsEach old (pairs ++ (bytes, w) ∷ []) new
counts_each_more old [] mid bytes w new all one = (new, subst (λ (s : CountState). Counts s bytes w new) all one, refl)
counts_each_more old (pair ∷ pairs) mid bytes w new all one = (all.0, all.1, counts_each_more all.0 pairs mid bytes w new all.2 one)

module _ {W : Type 0} (number : W → ℤ) (items : List (List ℕ)) (weights : List W) (same : length weights ≡ length items) where
  -- the items beside their weights
  abbrev pub pairs : List (List ℕ × ℤ)
  pairs = zip items (map number weights)

  long : length pairs ≡ length items
  long = length-zip items (map number weights) ∙ omega (arith, same, length-map weights number)

  -- the pair at an index
  pair_at : (i : ℕ) (bytes : List ℕ) (w : W) → i < length items → bytes ≡ get_or items i bytes → w ≡ get_or weights i w → get_or pairs i (bytes, number w) ≡ (bytes, number w)
  pair_at i bytes w there is_bytes is_w =
      let second : i < length (map number weights) = omega (arith, there, same, length-map weights number) in
      let other : i < length weights = omega (arith, there, same) in
      let weight : get_or (map number weights) i (number w) ≡ number w = get_or-map number weights i w (number w) other ∙ ap number (sym is_w) in
      get_or-zip items (map number weights) i (bytes, number w) there second ∙ (λ k. (sym is_bytes k, weight k))

  -- one more of the items is counted
  pub counts_next : (i : ℕ) (bytes : List ℕ) (w : W) (old mid new : CountState) → i < length items → bytes ≡ get_or items i bytes → w ≡ get_or weights i w
      → CountsEach old (take i pairs) mid → Counts mid bytes (number w) new → CountsEach old (take (i + 1) pairs) new
  counts_next i bytes w old mid new there is_bytes is_w all one =
      let within : i < length pairs = omega (arith, there, long) in
      let more : take (i + 1) pairs ≡ take i pairs ++ (bytes, number w) ∷ [] = take_more pairs i (bytes, number w) within ∙ ap (λ p. take i pairs ++ p ∷ []) (pair_at i bytes w there is_bytes is_w) in
      subst (λ ps. CountsEach old ps new) (sym more) (counts_each_more old (take i pairs) mid bytes (number w) new all one)

  -- all of them are
  pub counts_whole : (i : ℕ) (old new : CountState) → length items ≤ i → CountsEach old (take i pairs) new → CountsEach old pairs new
  counts_whole i old new here all =
      let whole : length pairs ≤ i = omega (arith, here, long) in
      subst (λ ps. CountsEach old ps new) (take_all i pairs whole) all

-- what stood for a history stands for it with the updates after it
pub stands_each : (old : CountState) (pairs : List (List ℕ × ℤ)) (new : CountState) → CountsEach old pairs new → Extends old new (λ h. each_updated h pairs)
stands_each old [] new all h is = subst (λ (s : CountState). StandsFor s h) (sym all) is
stands_each old (pair ∷ rest) new all h is = stands_each all.0 rest new all.2 (Update h pair.0 pair.1) (stands_counted old all.0 pair.0 pair.1 h all.1 is)

-- ---- other sketches

-- what holds of all others holds of each
pub one_other : {S : Type 0} (P : S → Type 0) (others : List (Bor S)) (i : ℕ) (x : Bor S) → i < length others → x ≡ get_or others i x
    → All P (map (λ other. other.now) others) → P x.now
one_other P others i x there is all =
    let long : i < length (map (λ other. other.now) others) = subst (λ (n : ℕ). i < n) (sym (length-map others (λ other. other.now))) there in
    subst P (get_or-map (λ other. other.now) others i x x.now there ∙ sym (ap (λ o. o.now) is)) (all i x.now long)

-- one more is added
joins_each_more : (old : CountState) (others : List CountState) (mid other new : CountState) → JoinsEach old others mid → Joins mid other new → JoinsEach old (others ++ other ∷ []) new
joins_each_more old [] mid other new all one = (new, subst (λ (s : CountState). Joins s other new) all one, refl)
joins_each_more old (first ∷ others) mid other new all one = (all.0, all.1, joins_each_more all.0 others mid other new all.2 one)

pub joins_next : (others : List (Bor CountState)) (i : ℕ) (x : Bor CountState) (old mid new : CountState) → i < length others → x ≡ get_or others i x
    → JoinsEach old (map (λ other. other.now) (take i others)) mid → Joins mid x.now new → JoinsEach old (map (λ other. other.now) (take (i + 1) others)) new
joins_next others i x old mid new there is all one =
    let before : List CountState = map (λ other. other.now) (take i others) in
    let more : map (λ other. other.now) (take (i + 1) others) ≡ before ++ x.now ∷ [] =
    ap (map (λ other. other.now)) (take_more others i x there ∙ ap (λ o. take i others ++ o ∷ []) (sym is)) ∙ map-append (λ other. other.now) (take i others) (x ∷ []) in
    subst (λ os. JoinsEach old os new) (sym more) (joins_each_more old before mid x.now new all one)

-- a sketch of the shape of another has the shape of those that have it too
pub still_same : (old now other : CountState) → SameShape now old → SameShape old other → SameShape now other
still_same old now other a b = record { hashes = a.hashes ∙ b.hashes; buckets = a.buckets ∙ b.buckets; seed = a.seed ∙ b.seed }

-- what stood for a history stands for it with the merges after it
pub stands_joined_each : (old : CountState) (others : List CountState) (new : CountState) (g : CountHistory) (hs : List CountHistory) → JoinsEach old others new
    → StandsFor old g → AllZip StandsFor others hs → StandsFor new (all_merged g hs)
stands_joined_each old [] new g [] all is each = subst (λ (s : CountState). StandsFor s g) (sym all) is
stands_joined_each old [] new g (h ∷ hs) all is each = absurd each
stands_joined_each old (o ∷ os) new g [] all is each = absurd each
stands_joined_each old (o ∷ os) new g (h ∷ hs) all is each = stands_joined_each all.0 os new (Merge g h) hs all.2 (stands_joined old o all.0 g h all.1 is each.0) each.1
