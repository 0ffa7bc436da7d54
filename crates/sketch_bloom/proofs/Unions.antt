-- Other filters united into one, one after another.
use Rattle.std.proofs.Common.{◌≡◌, ℕ, ◌+◌, ◌<◌, List, [], ◌∷◌, ◌++◌, Bor, All, length, map, take, get_or, sym, ap, ◌∙◌, subst}
use Rattle.std.specs.Prelude.{Result, Ok, Err, IsOk, OnOk}
use Rattle.std.specs.List.{AllZip}
use Rattle.std.specs.FinSet as set
use Rattle.std.proofs.lemmas.Bool.{false≢true}
use Rattle.std.proofs.lemmas.List.{map-append, take_more, get_or-map, length-map}
use Rattle.std.proofs.lemmas.List.Sums.{fold-append}
use Rattle.sketch_bloom.specs.History.{BloomHistory, all_united_after}
use Rattle.sketch_bloom.specs.History.BloomHistory.{Union}
use Rattle.sketch_bloom.specs.Stands.{StandsFor}
use Rattle.sketch_bloom.specs.State.{FilterState, IsCompatible, united, all_united}

-- what is said of a call that was done
pub ok_said : {V E : Type 0} (r : Result V E) (P : Type 0) → IsOk r → OnOk r P → P
ok_said (Ok x) P is said = said
ok_said (Err e) P is said = absurd (false≢true is)

-- what holds of all others holds of each
pub one_other : {S : Type 0} (P : S → Type 0) (others : List (Bor S)) (i : ℕ) (x : Bor S) → i < length others → x ≡ get_or others i x
    → All P (map (λ other. other.now) others) → P x.now
one_other P others i x there is all =
    let long : i < length (map (λ other. other.now) others) = subst (λ (n : ℕ). i < n) (sym (length-map others (λ other. other.now))) there in
    subst P (get_or-map (λ other. other.now) others i x x.now there ∙ sym (ap (λ o. o.now) is)) (all i x.now long)

-- a union keeps what makes filters compatible
pub united_compatible : (s : FilterState) (others : List FilterState) (o : FilterState) → IsCompatible s o → IsCompatible (all_united s others) o
united_compatible s [] o c = c
united_compatible s (x ∷ xs) o c = united_compatible (united s x) xs o (record { num_words = c.num_words; num_hashes = c.num_hashes; seed = c.seed })

-- one more is united
pub united_more : (s : FilterState) (others : List (Bor FilterState)) (i : ℕ) (x : Bor FilterState) → i < length others → x ≡ get_or others i x
    → all_united s (map (λ other. other.now) (take (i + 1) others)) ≡ united (all_united s (map (λ other. other.now) (take i others))) x.now
united_more s others i x there is =
    ap (λ os. all_united s (map (λ other. other.now) os)) (take_more others i x there ∙ ap (λ o. take i others ++ o ∷ []) (sym is))
    ∙ (ap (all_united s) (map-append (λ other. other.now) (take i others) (x ∷ []))
    ∙ fold-append united s (map (λ other. other.now) (take i others)) (x.now ∷ []))

-- what stood for a history stands for it with the unions after it
pub all_united_stands : (s : FilterState) (others : List FilterState) (g : BloomHistory) (hs : List BloomHistory) → StandsFor s g → AllZip StandsFor others hs
    → StandsFor (all_united s others) (all_united_after g hs)
all_united_stands s [] g [] e a = e
all_united_stands s [] g (h ∷ hs) e a = absurd a
all_united_stands s (o ∷ os) g [] e a = absurd a
all_united_stands s (o ∷ os) g (h ∷ hs) e a = all_united_stands (united s o) os (Union g h) hs (record {
  num_words = e.num_words;
  num_hashes = e.num_hashes;
  seed = e.seed;
  set = λ i. set.union (e.set i) (a.0.set i);
}) a.1
