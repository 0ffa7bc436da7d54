-- Uses as they age, in a history and as plain numbers.
use Rattle.std.proofs.Common.{◌≡◌, ℕ, ◌+◌, ◌/◌, ◌<◌, ◌≤◌, ◌==◌, Bool, true, false, cond, List, [], ◌∷◌, ◌++◌, fold, refl, sym, ap, subst, ◌∙◌, arith}
use Rattle.std.specs.Prelude.{ℤ, pos, unsigned_abs, ◌+ℤ◌, ◌≤ℤ◌, ◌↔◌, IsTrue, nat_lt, if◌then◌else◌}
use Rattle.std.specs.Str.{bytes_eq}
use Rattle.std.proofs.Common.{eq-eqb}
use Rattle.std.proofs.lemmas.Bool.{ne_eqb, ltb-true, lt-ltb}
use Rattle.std.proofs.lemmas.Int.{ints}
use Rattle.std.proofs.lemmas.List.Sums.{fold_push}
use Rattle.std.proofs.lemmas.List.Folds.{fold_along}
use Rattle.sketch_countmin.specs.Buckets.{bucket_of}
use Rattle.sketch_countmin.specs.History.{CountHistory, absolute_weight, own_value, IsNonnegative}
use Rattle.sketch_countmin.specs.History.CountHistory.{New, Update, Halve}
use Rattle.sketch_countmin.specs.Stands.{StandsFor, Extends}
use Rattle.sketch_countmin.specs.State.{CountState, IsCountState, SameShape, Counts, IsMin, IsMinCell, item_cell, halved_state}
use Rattle.sketch_countmin.specs.Values.{halved}
use Rattle.uses.specs.Admissions.{AdmissionState, Aged, aged_by, aged, aged_share, after_use, HasSeen, Touches}

-- a history and the numbers of one item say the same
record Agrees (item : List ℕ) (h : CountHistory) (a : Aged) : Type 0 where
  own : own_value h item ≡ pos a.own
  all : absolute_weight h ≡ a.all
  positive : IsNonnegative h

-- the weight that a use adds
one_more : (b : Bool) (n : ℕ) → (pos n +ℤ (if b then pos 1 else pos 0)) ≡ pos (n + cond b 1 0)
one_more true n = refl
one_more false n = refl

-- one more use
agrees_more : (window : ℕ) (item : List ℕ) (h : CountHistory) (a : Aged) (used : List ℕ) → Agrees item h a
    → Agrees item (after_use window h used) (aged_by window item a used)
agrees_more window item h a used g =
    let own : own_value (Update h used (pos 1)) item ≡ pos (a.own + cond (bytes_eq item used) 1 0) =
    ap (λ (z : ℤ). z +ℤ (if bytes_eq item used then pos 1 else pos 0)) g.own ∙ one_more (bytes_eq item used) a.own in
    let all : absolute_weight (Update h used (pos 1)) ≡ a.all + 1 = ap (λ (n : ℕ). n + 1) g.all in
    let own' : ℕ = a.own + cond (bytes_eq item used) 1 0 in
    subst (λ (n : ℕ). Agrees item (if n == window then Halve (Update h used (pos 1)) else Update h used (pos 1)) (aged_by window item a used)) (sym all)
    (elim ((a.all + 1) == window) as (λ b. Agrees item (if b then Halve (Update h used (pos 1)) else Update h used (pos 1)) (if b then record { own = own' / 2; all = (a.all + 1) / 2 } else record { own = own'; all = a.all + 1 })) [
      | true ↦ record {
        own = ap (λ (z : ℤ). halved z) own;
        all = ap (λ (n : ℕ). n / 2) all;
        positive = (g.positive, omega (arith, ints));
      }
      | false ↦ record { own = own; all = all; positive = (g.positive, omega (arith, ints)) }
    ])

agree : (window hashes buckets seed : ℕ) (uses : List (List ℕ)) (item : List ℕ)
    → Agrees item (fold (after_use window) (New hashes buckets seed) uses) (aged window uses item)
agree window hashes buckets seed uses item =
    fold_along (after_use window) (aged_by window item) (Agrees item) (λ h a used g. agrees_more window item h a used g)
    (New hashes buckets seed) (record { own = 0; all = 0 }) uses (record { own = refl; all = refl; positive = tt })

-- the estimate is not below the own share
pub share_below : (s : AdmissionState) (item : List ℕ) (n : ℕ)
    → ((h : CountHistory) → StandsFor s.recent h → IsNonnegative h → (own_value h item ≤ℤ pos n) × (pos n ≤ℤ pos s.recent.total))
    → (uses : List (List ℕ)) → HasSeen s uses → aged_share s.window uses item ≤ n
share_below s item n encloses uses seen =
    let h = fold (after_use s.window) (New s.recent.hashes s.recent.buckets s.recent.seed) uses in
    let g = agree s.window s.recent.hashes s.recent.buckets s.recent.seed uses item in
    let own = g.own in
    let below = (encloses h seen.stands g.positive).0 in
    omega (arith, ints, own, below)

-- nor is it above the total
pub estimate_bounded : (greatest : ℕ) (s : CountState) (item : List ℕ) (n : ℕ) → IsCountState greatest s → IsMinCell s item (pos n)
    → n ≤ s.total
estimate_bounded greatest s item n state least =
    let r = least.reached in
    let cell = state.bounded r.0 (bucket_of s.buckets s.seed r.0 item) in
    subst (λ (z : ℤ). unsigned_abs z ≤ s.total) (sym r.2) cell

-- ---- one more use

-- the window was then full
pub touches_full : (recent counted next : CountState) (window : ℕ) (used : List ℕ) → Counts recent used (pos 1) counted
    → counted.total ≡ window → next ≡ halved_state counted
    → Touches (record { recent = recent; window = window }) used (record { recent = next; window = window })
touches_full recent counted next window used counts full e = record {
  window = refl;
  counted = counted;
  counts = counts;
  aged = e ∙ ap (λ (b : Bool). if b then halved_state counted else counted) (sym (eq-eqb counted.total window full));
}

-- it was not
pub touches : (recent counted : CountState) (window : ℕ) (used : List ℕ) → Counts recent used (pos 1) counted
    → (counted.total ≡ window → ⊥)
    → Touches (record { recent = recent; window = window }) used (record { recent = counted; window = window })
touches recent counted window used counts room = record {
  window = refl;
  counted = counted;
  counts = counts;
  aged = ap (λ (b : Bool). if b then halved_state counted else counted) (sym (ne_eqb counted.total window room));
}

-- the history of uses with another shape and seed that are the same ones
seen_shape : (next recent : CountState) (window : ℕ) (uses : List (List ℕ)) → SameShape next recent
    → StandsFor next (fold (after_use window) (New recent.hashes recent.buckets recent.seed) uses)
    → HasSeen (record { recent = next; window = window }) uses
seen_shape next recent window uses same stands = record {
  stands = subst (λ (h : CountHistory). StandsFor next (fold (after_use window) h uses)) (λ i. New (sym same.hashes i) (sym same.buckets i) (sym same.seed i)) stands;
}

pub seen_full : (recent counted next : CountState) (window : ℕ) (used : List ℕ) → SameShape next recent
    → Extends recent counted (λ h. Update h used (pos 1)) → counted.total ≡ window → Extends counted next Halve
    → (uses : List (List ℕ)) → HasSeen (record { recent = recent; window = window }) uses
    → HasSeen (record { recent = next; window = window }) (uses ++ used ∷ [])
seen_full recent counted next window used same more full halve uses seen =
    let start = New recent.hashes recent.buckets recent.seed in
    let h = fold (after_use window) start uses in
    let stands = more h seen.stands in
    let test : (absolute_weight (Update h used (pos 1)) == window) ≡ true = eq-eqb (absolute_weight (Update h used (pos 1))) window (sym stands.total ∙ full) in
    let after : fold (after_use window) start (uses ++ used ∷ []) ≡ Halve (Update h used (pos 1)) =
    fold_push (after_use window) start uses used
    ∙ ap (λ (b : Bool). if b then Halve (Update h used (pos 1)) else Update h used (pos 1)) test in
    seen_shape next recent window (uses ++ used ∷ []) same
    (subst (λ (g : CountHistory). StandsFor next g) (sym after) (halve (Update h used (pos 1)) stands))

pub seen_more : (recent counted : CountState) (window : ℕ) (used : List ℕ) → SameShape counted recent
    → Extends recent counted (λ h. Update h used (pos 1)) → (counted.total ≡ window → ⊥)
    → (uses : List (List ℕ)) → HasSeen (record { recent = recent; window = window }) uses
    → HasSeen (record { recent = counted; window = window }) (uses ++ used ∷ [])
seen_more recent counted window used same more room uses seen =
    let start = New recent.hashes recent.buckets recent.seed in
    let h = fold (after_use window) start uses in
    let stands = more h seen.stands in
    let test : (absolute_weight (Update h used (pos 1)) == window) ≡ false = ne_eqb (absolute_weight (Update h used (pos 1))) window (λ e. room (stands.total ∙ e)) in
    let after : fold (after_use window) start (uses ++ used ∷ []) ≡ Update h used (pos 1) =
    fold_push (after_use window) start uses used
    ∙ ap (λ (b : Bool). if b then Halve (Update h used (pos 1)) else Update h used (pos 1)) test in
    seen_shape counted recent window (uses ++ used ∷ []) same
    (subst (λ (g : CountHistory). StandsFor counted g) (sym after) stands)

-- there is one least number
least_below : (n : ℕ) (f : ℕ → ℤ) (x y : ℤ) → IsMin n f x → IsMin n f y → x ≤ℤ y
least_below n f x y p q = subst (λ (z : ℤ). x ≤ℤ z) (sym q.reached.2) (p.below q.reached.0 q.reached.1)

least_same : (n : ℕ) (f : ℕ → ℤ) (x y : ℕ) → IsMin n f (pos x) → IsMin n f (pos y) → x ≡ y
least_same n f x y p q = omega (arith, ints, least_below n f (pos x) (pos y) p q, least_below n f (pos y) (pos x) q p)

-- so a comparison of two estimates is that of the least cells
pub admits_so : (s : CountState) (newcomer victim : List ℕ) (a b : ℕ) → IsMinCell s newcomer (pos a) → IsMinCell s victim (pos b)
    → (n v : ℕ) → IsMinCell s newcomer (pos n) → IsMinCell s victim (pos v) → IsTrue (nat_lt b a) ↔ (v < n)
admits_so s newcomer victim a b p q n v p' q' =
    let e : a ≡ n = least_same s.hashes (item_cell s newcomer) a n p p' in
    let f : b ≡ v = least_same s.hashes (item_cell s victim) b v q q' in
    (λ more. let lt : b < a = ltb-true b a more in omega arith, λ lt. lt-ltb b a (omega arith))
