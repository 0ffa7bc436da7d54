-- Results that move from the last places to their rows.
use Rattle.std.proofs.Common.{◌≡◌, ◌+◌, ◌-◌, ◌<◌, ◌≤◌, ℕ, zero, suc, List, [], ◌∷◌, ◌++◌, length, map, take, drop, drop-cons, get_or, set, Bool, true, false, not, ◌⊎◌, inl, inr, arith, refl, sym, subst, ap, ◌∙◌, append_assoc, append-nil, length-set, length-drop, add-one}
use Rattle.std.proofs.Math.Seq.{take-length}
use Rattle.std.proofs.lemmas.List.{nil_from_length, take_more_set, drop-set-lt}
use Rattle.std.proofs.lemmas.List.Elements.{All-nil, All-cons}
use Rattle.std.specs.List.{All}
use Rattle.sketch_base.specs.Validity.{valid}
use Rattle.sketch_base.proofs.ValidBits.{left_out}
use Rattle.any_sketch.specs.ValidRows.{ByRow}

-- the results by row, from those of the valid rows
pub by_rows : {A : Type 0} → (bits : List Bool) → (null : A) → (count : ℕ) → (dense : List A) → List A
by_rows bits null zero dense = []
by_rows [] null (suc count) dense = null ∷ by_rows [] null count dense
by_rows (false ∷ bits) null (suc count) dense = null ∷ by_rows bits null count dense
by_rows (true ∷ bits) null (suc count) [] = null ∷ by_rows bits null count []
by_rows (true ∷ bits) null (suc count) (x ∷ dense) = x ∷ by_rows bits null count dense

pub few_valid : {A : Type 0} → (bits : List Bool) (rows : List A) → length (valid bits rows) ≤ length rows
few_valid bits [] = omega arith
few_valid [] (x ∷ rows) = omega arith
few_valid (true ∷ bits) (x ∷ rows) = omega (arith, few_valid bits rows)
few_valid (false ∷ bits) (x ∷ rows) = omega (arith, few_valid bits rows)

split_drop : {A : Type 0} → (i : ℕ) (xs : List A) → i < length xs → (x : A) × (drop i xs ≡ x ∷ drop (suc i) xs)
split_drop i [] there = let none : ⊥ = omega (arith, there) in absurd none
split_drop zero (x ∷ xs) there = (x, refl)
split_drop (suc i) (x ∷ xs) there = split_drop i xs (omega (arith, there))

-- a row whose bit is set is one more valid row
pub one_more : {A : Type 0} → (bits next : List Bool) (rows : List A) (i : ℕ) → i < length rows → bits ≡ true ∷ next
    → length (valid bits (drop i rows)) ≡ length (valid next (drop (i + 1) rows)) + 1
one_more bits next rows i there is =
    let first = split_drop i rows there in
    let all : length (valid bits (drop i rows)) ≡ length (valid (true ∷ next) (first.0 ∷ drop (suc i) rows)) =
    ap (λ (bs : List Bool). length (valid bs (drop i rows))) is ∙ ap (λ (xs : List _). length (valid (true ∷ next) xs)) first.1 in
    let rest : length (valid next (drop (suc i) rows)) ≡ length (valid next (drop (i + 1) rows)) = ap (λ n. length (valid next (drop n rows))) (sym (add-one i)) in
    omega (arith, all, rest)

-- any other row is left out
pub no_row : {A : Type 0} → (bits next : List Bool) (rows : List A) (i : ℕ) → i < length rows
    → (bits ≡ false ∷ next) ⊎ ((bits ≡ []) × (next ≡ [])) → valid bits (drop i rows) ≡ valid next (drop (i + 1) rows)
no_row bits next rows i there unset =
    let first = split_drop i rows there in
    ap (valid bits) first.1 ∙ (left_out bits next unset first.0 (drop (suc i) rows) ∙ ap (λ n. valid next (drop n rows)) (sym (add-one i)))

pub no_more : {A : Type 0} → (bits next : List Bool) (rows : List A) (i : ℕ) → i < length rows
    → (bits ≡ false ∷ next) ⊎ ((bits ≡ []) × (next ≡ [])) → length (valid bits (drop i rows)) ≡ length (valid next (drop (i + 1) rows))
no_more bits next rows i there unset = ap length (no_row bits next rows i there unset)

null_row : {A : Type 0} → (bits next : List Bool) (null : A) (count : ℕ) (dense : List A)
    → (bits ≡ false ∷ next) ⊎ ((bits ≡ []) × (next ≡ [])) → by_rows bits null (suc count) dense ≡ null ∷ by_rows next null count dense
unfolding by_rows
null_row bits next null count dense (inl is) = ap (λ (bs : List Bool). by_rows bs null (suc count) dense) is
null_row bits next null count dense (inr none) =
    ap (λ (bs : List Bool). by_rows bs null (suc count) dense) none.0 ∙ ap (λ (bs : List Bool). null ∷ by_rows bs null count dense) (sym none.1)

-- a result was written to row i, and the results behind it wait
written : {A : Type 0} → (next : List Bool) (null x : A) (results : List A) (i at : ℕ) → i < length results → i < at
    → take (i + 1) (set results i x) ++ by_rows next null (length (set results i x) - (i + 1)) (drop at (set results i x))
    ≡ take i results ++ x ∷ by_rows next null (length results - (i + 1)) (drop at results)
written next null x results i at there behind =
    ap (λ (front : List _). front ++ by_rows next null (length (set results i x) - (i + 1)) (drop at (set results i x))) (take_more_set results i x there)
    ∙ (ap (λ n. (take i results ++ x ∷ []) ++ by_rows next null (n - (i + 1)) (drop at (set results i x))) (length-set results i x)
    ∙ (ap (λ (rest : List _). (take i results ++ x ∷ []) ++ by_rows next null (length results - (i + 1)) rest) (drop-set-lt at results i x behind)
    ∙ append_assoc (take i results) (x ∷ []) (by_rows next null (length results - (i + 1)) (drop at results))))

-- the next of the waiting results was moved to row i
pub moved : {A : Type 0} → (bits next : List Bool) (null x : A) (results : List A) (i at : ℕ) → i < length results → i ≤ at → bits ≡ true ∷ next
    → drop at results ≡ x ∷ drop (at + 1) results
    → take (i + 1) (set results i x) ++ by_rows next null (length (set results i x) - (i + 1)) (drop (at + 1) (set results i x))
    ≡ take i results ++ by_rows bits null (length results - i) (drop at results)
unfolding by_rows
moved bits next null x results i at there behind is waits =
    let more : length results - i ≡ suc (length results - (i + 1)) = omega (arith, there) in
    written next null x results i (at + 1) there (omega (arith, behind))
    ∙ sym (ap (λ (rest : List _). take i results ++ by_rows bits null (length results - i) rest) waits
    ∙ (ap (λ (bs : List Bool). take i results ++ by_rows bs null (length results - i) (x ∷ drop (at + 1) results)) is
    ∙ ap (λ n. take i results ++ by_rows (true ∷ next) null n (x ∷ drop (at + 1) results)) more))

-- row i became null
pub nulled : {A : Type 0} → (bits next : List Bool) (null : A) (results : List A) (i at : ℕ) → i < length results → i < at
    → (bits ≡ false ∷ next) ⊎ ((bits ≡ []) × (next ≡ []))
    → take (i + 1) (set results i null) ++ by_rows next null (length (set results i null) - (i + 1)) (drop at (set results i null))
    ≡ take i results ++ by_rows bits null (length results - i) (drop at results)
nulled bits next null results i at there behind unset =
    let more : length results - i ≡ suc (length results - (i + 1)) = omega (arith, there) in
    written next null null results i at there behind
    ∙ sym (ap (λ n. take i results ++ by_rows bits null n (drop at results)) more
    ∙ ap (λ (rest : List _). take i results ++ rest) (null_row bits next null (length results - (i + 1)) (drop at results) unset))

-- no row is left
pub placed_all : {A : Type 0} → (bits : List Bool) (null : A) (results : List A) (i : ℕ) (dense : List A) → i ≡ length results
    → take i results ++ by_rows bits null (length results - i) dense ≡ results
unfolding by_rows
placed_all bits null results i dense ended =
    let none : length results - i ≡ 0 = omega (arith, ended) in
    ap (λ n. take i results ++ by_rows bits null n dense) none ∙ (append-nil (take i results) ∙ (ap (λ n. take n results) ended ∙ take-length results))

dense_back : {A B : Type 0} → (bits : List Bool) (null : A) (rows : List B) (dense : List A) → length dense ≡ length (valid bits rows)
    → valid bits (by_rows bits null (length rows) dense) ≡ dense
unfolding by_rows
dense_back bits null [] dense same = sym (nil_from_length dense same)
dense_back [] null (row ∷ rows) dense same = sym (nil_from_length dense same)
dense_back (false ∷ bits) null (row ∷ rows) dense same = dense_back bits null rows dense same
dense_back (true ∷ bits) null (row ∷ rows) [] same = let none : ⊥ = omega (arith, same) in absurd none
dense_back (true ∷ bits) null (row ∷ rows) (x ∷ dense) same = ap (λ (xs : List _). x ∷ xs) (dense_back bits null rows dense (omega (arith, same)))

nulls_back : {A B : Type 0} → (bits : List Bool) (null : A) (rows : List B) (dense : List A) → length dense ≡ length (valid bits rows)
    → All (λ result. result ≡ null) (valid (map not bits) (by_rows bits null (length rows) dense))
unfolding by_rows
nulls_back bits null [] dense same = All-nil (λ result. result ≡ null)
nulls_back [] null (row ∷ rows) dense same = All-nil (λ result. result ≡ null)
nulls_back (false ∷ bits) null (row ∷ rows) dense same =
    All-cons (λ result. result ≡ null) null (valid (map not bits) (by_rows bits null (length rows) dense)) refl (nulls_back bits null rows dense same)
nulls_back (true ∷ bits) null (row ∷ rows) [] same = let none : ⊥ = omega (arith, same) in absurd none
nulls_back (true ∷ bits) null (row ∷ rows) (x ∷ dense) same = nulls_back bits null rows dense (omega (arith, same))

-- all results stand at their rows
pub spread_out : {A : Type 0} → (bits : List Bool) (null : A) (old new : List A) (from : ℕ) → from + length (valid bits old) ≡ length old
    → new ≡ by_rows bits null (length old) (drop from old) → ByRow bits null new (λ answers. answers ≡ drop from old)
spread_out bits null old new from room is =
    let same : length (drop from old) ≡ length (valid bits old) = omega (arith, length-drop from old, room) in
    record {
      valid_rows = ap (valid bits) is ∙ dense_back bits null old (drop from old) same;
      null_rows = subst (λ (xs : List _). All (λ result. result ≡ null) (valid (map not bits) xs)) (sym is) (nulls_back bits null old (drop from old) same);
    }

-- the result at an index waits
pub waits_at : {A : Type 0} → (results : List A) (at : ℕ) (x : A) → at < length results → x ≡ get_or results at x
    → drop at results ≡ x ∷ drop (at + 1) results
waits_at results at x there is =
    drop-cons results at x there ∙ (ap (λ y. y ∷ drop (suc at) results) (sym is) ∙ ap (λ n. x ∷ drop n results) (sym (add-one at)))

-- the results that wait stand behind the rows so far
pub behind_rows : {A : Type 0} → (bits : List Bool) (results : List A) (i at : ℕ) → i < length results
    → at + length (valid bits (drop i results)) ≡ length results → i ≤ at
behind_rows bits results i at there left = omega (arith, few_valid bits (drop i results), length-drop i results, there, left)

-- one more valid row was kept
pub kept_more : {A : Type 0} → (bits next : List Bool) (kept rows : List A) (i : ℕ) (x : A) → bits ≡ true ∷ next
    → drop i rows ≡ x ∷ drop (i + 1) rows → (kept ++ x ∷ []) ++ valid next (drop (i + 1) rows) ≡ kept ++ valid bits (drop i rows)
kept_more bits next kept rows i x is first =
    append_assoc kept (x ∷ []) (valid next (drop (i + 1) rows))
    ∙ sym (ap (λ (bs : List Bool). kept ++ valid bs (drop i rows)) is ∙ ap (λ (xs : List _). kept ++ valid (true ∷ next) xs) first)
