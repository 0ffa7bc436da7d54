-- One row more.
use Rattle.std.proofs.Common.{◌≡◌, ◌≢◌, ℕ, ◌+◌, ◌*◌, ◌<◌, ◌≤◌, Bool, true, false, eqb, cond, List, [], ◌∷◌, ◌++◌, replicate, length, get_or, set, ℤ, pos, ◌+ℤ◌, refl, sym, ap, ◌∙◌, subst, arith, get_or-set_other, get_or-set_same, below_more, map, inl, inr, ⊎_elim}
use Rattle.std.proofs.lemmas.List.{get_or-map, map-set, map_push, replicate_more, get_or_append_left, get_or_push}
use Rattle.sketch_base.specs.Hashes.{le64}
use Rattle.sketch_base.specs.Murmur3.{murmur3_x64_128}
use Rattle.std.specs.declared.cmp.Ordering.{Ordering}
use Rattle.std.specs.declared.cmp.Ordering.TheVariants.{Less, Equal, Greater}
use Rattle.std.specs.Ordering.{MatchOrdering, is_lt}
use Rattle.std.specs.Prelude.{◌≤ℤ◌, ◌<ℤ◌}
use Rattle.std.proofs.lemmas.Int.{ints}
use Rattle.std.proofs.lemmas.Nat.{mul-le}
use Rattle.std.proofs.lemmas.Bool.{eqb-true, eqb-false}
use Rattle.sketch_countmin.specs.Cells.{flat_at, RowsAdded, IsMinOf, IsLesser}
use Rattle.sketch_countmin.specs.Buckets.{row_seed}

pub plus_zero : (z : ℤ) → z ≡ z +ℤ pos 0
plus_zero z = omega (arith, ints)

pub rows_none : (d : ℕ) (w : ℤ) (bucket : ℕ → ℕ) (old : List ℤ) → RowsAdded d w bucket 0 old old
rows_none d w bucket old = record { done = λ r h _ _. absurd (omega arith); rest = λ k _. refl }

-- a index in an earlier row is before the row n
row_before : (d r n b : ℕ) → r < n → b < d → r * d + b < n * d
row_before d r n b h p = omega (arith, mul-le (r + 1) d n d (omega arith) (omega arith))

-- a index in one of the rows
pub inside : (d rows n b l : ℕ) → l ≡ rows * d → n < rows → b < d → n * d + b < l
inside d rows n b l e lt p = omega (arith, e, row_before d n rows b lt p)

-- the row n itself
at_row : (d : ℕ) (w : ℤ) (n c : ℕ) (old mid : List ℤ) → ((k : ℕ) → n * d ≤ k → get_or mid k (pos 0) ≡ get_or old k (pos 0)) → n * d + c < length mid
    → (b : ℕ) (t : Bool) → eqb c b ≡ t → b < d
    → flat_at d (set mid (n * d + c) (get_or mid (n * d + c) (pos 0) +ℤ w)) n b ≡ flat_at d old n b +ℤ cond t w (pos 0)
at_row d w n c old mid same fits b true e p =
    let here : get_or (set mid (n * d + c) (get_or mid (n * d + c) (pos 0) +ℤ w)) (n * d + c) (pos 0) ≡ get_or mid (n * d + c) (pos 0) +ℤ w = get_or-set_same mid (n * d + c) (get_or mid (n * d + c) (pos 0) +ℤ w) (pos 0) fits in
    subst (λ (b : ℕ). flat_at d (set mid (n * d + c) (get_or mid (n * d + c) (pos 0) +ℤ w)) n b ≡ flat_at d old n b +ℤ w) (eqb-true c b e)
    (here ∙ ap (λ (z : ℤ). z +ℤ w) (same (n * d + c) (omega arith)))
at_row d w n c old mid same fits b false e p =
    let ne : n * d + b ≢ n * d + c = λ q. eqb-false c b e (omega (arith, q)) in
    get_or-set_other mid (n * d + c) (n * d + b) (get_or mid (n * d + c) (pos 0) +ℤ w) (pos 0) ne
    ∙ (same (n * d + b) (omega arith) ∙ plus_zero (get_or old (n * d + b) (pos 0)))

pub rows_more : (d : ℕ) (w : ℤ) (bucket : ℕ → ℕ) (n : ℕ) (old mid : List ℤ) → RowsAdded d w bucket n old mid → bucket n < d → n * d + bucket n < length mid
    → RowsAdded d w bucket (n + 1) old (set mid (n * d + bucket n) (get_or mid (n * d + bucket n) (pos 0) +ℤ w))
rows_more d w bucket n old mid h in_row fits = record {
  done = below_more (λ (r : ℕ). (b : ℕ) → b < d → flat_at d after r b ≡ flat_at d old r b +ℤ cond (eqb (bucket r) b) w (pos 0)) n
      (λ r lt b p. let ne : r * d + b ≢ n * d + bucket n = omega (arith, row_before d r n b lt p) in rw get_or-set_other (h.done r lt b p))
      (λ b p. at_row d w n (bucket n) old mid h.rest fits b (eqb (bucket n) b) refl p);
  rest = λ k le. let ne : k ≢ n * d + bucket n = omega arith in rw get_or-set_other (h.rest k (omega arith));
}
  where
    after : List ℤ
    after = set mid (n * d + bucket n) (get_or mid (n * d + bucket n) (pos 0) +ℤ w)

-- ---- the same at values of a type

-- what the code reads is the cell
pub read_cell : {T : Type 0} (num : T → ℤ) (xs : List T) (k : ℕ) (x : T) → k < length xs → x ≡ get_or xs k x → get_or (map num xs) k (pos 0) ≡ num x
read_cell num xs k x fits e = get_or-map num xs k x (pos 0) fits ∙ sym (ap num e)

pub added_at : {T : Type 0} (num : T → ℤ) (xs : List T) (k : ℕ) (x s : T) (w : ℤ) → k < length xs → x ≡ get_or xs k x → num s ≡ num x +ℤ w
    → map num (set xs k s) ≡ set (map num xs) k (get_or (map num xs) k (pos 0) +ℤ w)
added_at num xs k x s w fits e sum =
    map-set num xs k s ∙ ap (λ (z : ℤ). set (map num xs) k z) (sum ∙ ap (λ (z : ℤ). z +ℤ w) (sym (read_cell num xs k x fits e)))

pub rows_added_here : (d : ℕ) (w : ℤ) (bucket : ℕ → ℕ) (n : ℕ) (old mid new : List ℤ) → RowsAdded d w bucket n old mid
    → (k : ℕ) → bucket n < d → k ≡ n * d + bucket n → k < length mid → new ≡ set mid k (get_or mid k (pos 0) +ℤ w)
    → RowsAdded d w bucket (n + 1) old new
rows_added_here d w bucket n old mid new h k in_row index fits e =
    let after : set mid (n * d + bucket n) (get_or mid (n * d + bucket n) (pos 0) +ℤ w) ≡ new = ap (λ (j : ℕ). set mid j (get_or mid j (pos 0) +ℤ w)) (sym index) ∙ sym e in
    subst (λ (cells : List ℤ). RowsAdded d w bucket (n + 1) old cells) after (rows_more d w bucket n old mid h in_row (omega arith))

-- the row n, whose number has two spellings
pub rows_added_next : (d : ℕ) (w : ℤ) (bucket : ℕ → ℕ) (n m : ℕ) (old mid new : List ℤ) → RowsAdded d w bucket n old mid → m ≡ n + 1
    → (k : ℕ) → bucket n < d → k ≡ n * d + bucket n → k < length mid → new ≡ set mid k (get_or mid k (pos 0) +ℤ w)
    → RowsAdded d w bucket m old new
rows_added_next d w bucket n m old mid new h next k in_row index fits e =
    subst (λ (l : ℕ). RowsAdded d w bucket l old new) (sym next) (rows_added_here d w bucket n old mid new h k in_row index fits e)

-- ---- the least cell

-- what the lesser of two values is
pub lesser : {T : Type 0} (num : T → ℤ) (a b : T) (o : Ordering) → MatchOrdering o (num b <ℤ num a) (num b ≡ num a) (num a <ℤ num b) → IsLesser (num a) (num b) (num (cond (is_lt o) b a))
lesser num a b Less h = record { first = omega (arith, ints); second = omega (arith, ints); either = inr refl }
lesser num a b Equal h = record { first = omega (arith, ints); second = omega (arith, ints); either = inl refl }
lesser num a b Greater h = record { first = omega (arith, ints); second = omega (arith, ints); either = inl refl }

-- the lesser of a value and of the cell at a index
pub lesser_here : {T : Type 0} (num : T → ℤ) (cmp : T → T → Ordering) (a b c : T) (x y : ℤ)
    → ((x y : T) → MatchOrdering (cmp x y) (num x <ℤ num y) (num x ≡ num y) (num y <ℤ num x)) → num a ≡ x → num b ≡ y → c ≡ cond (is_lt (cmp b a)) b a → IsLesser x y (num c)
lesser_here num cmp a b c x y ordered ex ey chosen =
    subst (λ (x : ℤ). IsLesser x y (num c)) ex
    (subst (λ (y : ℤ). IsLesser (num a) y (num c)) ey
    (subst (λ (c : _). IsLesser (num a) (num b) (num c)) (sym chosen) (lesser num a b (cmp b a) (ordered b a))))

-- the cell of the first row alone
pub least_at_first : (d : ℕ) (cells : List ℤ) (bucket : ℕ → ℕ) (z : ℤ) → z ≡ flat_at d cells 0 (bucket 0) → IsMinOf d cells bucket 1 z
least_at_first d cells bucket z here = record {
  below = λ r lt. let at_zero : 0 ≡ r = omega arith in subst (λ (r : ℕ). z ≤ℤ flat_at d cells r (bucket r)) at_zero (omega (arith, ints, here));
  reached = (0, omega arith, here);
}

pub least_first : {T : Type 0} (num : T → ℤ) (d : ℕ) (bucket : ℕ → ℕ) (cells : List ℤ) (k : ℕ) (x : T) → k ≡ 0 * d + bucket 0 → num x ≡ get_or cells k (pos 0)
    → IsMinOf d cells bucket 1 (num x)
least_first num d bucket cells k x index e = least_at_first d cells bucket (num x) (e ∙ ap (λ (j : ℕ). get_or cells j (pos 0)) index)

-- with the cell of one row more
pub least_lesser : (d : ℕ) (cells : List ℤ) (bucket : ℕ → ℕ) (n : ℕ) (x z : ℤ) → IsMinOf d cells bucket n x → IsLesser x (flat_at d cells n (bucket n)) z → IsMinOf d cells bucket (n + 1) z
least_lesser d cells bucket n x z h l = record {
  below = below_more (λ (r : ℕ). z ≤ℤ flat_at d cells r (bucket r)) n (λ r lt. let prior = h.below r lt in omega (arith, ints, l.first, prior)) l.second;
  reached = ⊎_elim (λ (same : z ≡ x). let there = h.reached in (there.0, omega (arith, there.1), same ∙ there.2)) (λ (same : z ≡ flat_at d cells n (bucket n)). (n, omega arith, same)) l.either;
}

pub least_more : {T : Type 0} (num : T → ℤ) (cmp : T → T → Ordering) (d : ℕ) (bucket : ℕ → ℕ) (n : ℕ) (cells : List ℤ) (a : T)
    → ((x y : T) → MatchOrdering (cmp x y) (num x <ℤ num y) (num x ≡ num y) (num y <ℤ num x))
    → IsMinOf d cells bucket n (num a)
    → (k : ℕ) (b c : T) → k ≡ n * d + bucket n → num b ≡ get_or cells k (pos 0) → c ≡ cond (is_lt (cmp b a)) b a
    → IsMinOf d cells bucket (n + 1) (num c)
least_more num cmp d bucket n cells a ordered h k b c index e chosen =
    least_lesser d cells bucket n (num a) (num c) h
    (lesser_here num cmp a b c (num a) (flat_at d cells n (bucket n)) ordered refl (e ∙ ap (λ (j : ℕ). get_or cells j (pos 0)) index) chosen)

-- ---- what a new sketch is made of

pub seeds_more : (xs ys : List ℕ) (n seed x : ℕ) → length xs ≡ n → ((r : ℕ) → r < n → get_or xs r 0 ≡ row_seed r seed) → x ≡ (murmur3_x64_128 (le64 n) seed).0 → ys ≡ xs ++ x ∷ []
    → (r : ℕ) → r < n + 1 → get_or ys r 0 ≡ row_seed r seed
unfolding row_seed
seeds_more xs ys n seed x long h e pushed = below_more (λ (r : ℕ). get_or ys r 0 ≡ row_seed r seed) n
    (λ r lt. ap (λ (l : List ℕ). get_or l r 0) pushed ∙ (get_or_append_left xs (x ∷ []) 0 r (omega (arith, long, lt)) ∙ h r lt))
    (ap (λ (l : List ℕ). get_or l n 0) pushed ∙ (get_or_push xs x 0 n long ∙ e))

pub seeds_set : (xs : List ℕ) (n seed x : ℕ) → n < length xs → ((r : ℕ) → r < n → get_or xs r 0 ≡ row_seed r seed) → x ≡ (murmur3_x64_128 (le64 n) seed).0
    → (r : ℕ) → r < n + 1 → get_or (set xs n x) r 0 ≡ row_seed r seed
unfolding row_seed
seeds_set xs n seed x fits h e = below_more (λ (r : ℕ). get_or (set xs n x) r 0 ≡ row_seed r seed) n
    (λ r lt. let ne : r ≢ n = omega arith in get_or-set_other xs n r x 0 ne ∙ h r lt)
    (get_or-set_same xs n x 0 fits ∙ e)

pub zeros_more : {T : Type 0} (num : T → ℤ) (xs ys : List T) (n : ℕ) (x : T) → num x ≡ pos 0 → map num xs ≡ replicate n (pos 0) → ys ≡ xs ++ x ∷ [] → map num ys ≡ replicate (n + 1) (pos 0)
zeros_more num xs ys n x z h pushed =
    ap (map num) pushed ∙ (map_push num xs x ∙ (ap (λ (w : ℤ). map num xs ++ w ∷ []) z ∙ (ap (λ (l : List ℤ). l ++ pos 0 ∷ []) h ∙ replicate_more n (pos 0))))
