-- What one function of each cell leaves.
use Rattle.std.proofs.Common.{◌≡◌, ℕ, ◌+◌, ◌<◌, ◌≤◌, ◌++◌, List, [], ◌∷◌, length, get_or, set, take, drop, map, replicate, ℤ, pos, refl, sym, ap, ◌∙◌, arith, zero, suc}
use Rattle.std.proofs.lemmas.List.{map-set, length-map, take_all, drop_all, append-nil}
use Rattle.sketch_countmin.proofs.RowSteps.{read_cell}

-- the first i elements are mapped: what is read next
read_rest : (f : ℤ → ℤ) (old : List ℤ) (i : ℕ) → i < length old → get_or (map f (take i old) ++ drop i old) i (pos 0) ≡ get_or old i (pos 0)
read_rest f [] i lt = absurd (omega arith)
read_rest f (x ∷ xs) zero lt = refl
read_rest f (x ∷ xs) (suc i) lt = read_rest f xs i (omega arith)

-- and what it is set to
set_rest : (f : ℤ → ℤ) (old : List ℤ) (i : ℕ) → i < length old → set (map f (take i old) ++ drop i old) i (f (get_or old i (pos 0))) ≡ map f (take (suc i) old) ++ drop (suc i) old
set_rest f [] i lt = absurd (omega arith)
set_rest f (x ∷ xs) zero lt = refl
set_rest f (x ∷ xs) (suc i) lt = ap (λ (l : List ℤ). f x ∷ l) (set_rest f xs i (omega arith))

-- one cell more, at values of a type
pub map_more_here : {T : Type 0} (number : T → ℤ) (f : ℤ → ℤ) (counts initial : List T) (i : ℕ) (x v : T) → i < length counts → length counts ≡ length initial → x ≡ get_or counts i x → number v ≡ f (number (get_or counts i x))
    → map number counts ≡ map f (take i (map number initial)) ++ drop i (map number initial) → map number (set counts i v) ≡ map f (take (i + 1) (map number initial)) ++ drop (i + 1) (map number initial)
map_more_here number f counts initial i x v below long e value inv =
    let old : List ℤ = map number initial in
    let lt : i < length old = omega (arith, length-map initial number, below, long) in
    let read : number x ≡ get_or old i (pos 0) = sym (read_cell number counts i x below e) ∙ (ap (λ (l : List ℤ). get_or l i (pos 0)) inv ∙ read_rest f old i lt) in
    let step : set (map number counts) i (number v) ≡ map f (take (suc i) old) ++ drop (suc i) old = ap (λ (l : List ℤ). set l i (number v)) inv ∙ (ap (λ (z : ℤ). set (map f (take i old) ++ drop i old) i z) (value ∙ ap (λ y. f (number y)) (sym e) ∙ ap f read) ∙ set_rest f old i lt) in
    let next : suc i ≡ i + 1 = omega arith in
    map-set number counts i v ∙ (step ∙ ap (λ (j : ℕ). map f (take j old) ++ drop j old) next)

-- and behind the last all are
pub mapped_all : {T : Type 0} (number : T → ℤ) (f : ℤ → ℤ) (initial : List T) (i : ℕ) → length initial ≤ i → map f (take i (map number initial)) ++ drop i (map number initial) ≡ map f (map number initial)
mapped_all number f initial i end =
    let old : List ℤ = map number initial in
    let long : length old ≤ i = omega (arith, length-map initial number, end) in
    ap (λ (rest : List ℤ). map f (take i old) ++ rest) (drop_all i old long) ∙ (append-nil (map f (take i old)) ∙ ap (map f) (take_all i old long))

-- cells that are all mapped to one number
pub mapped_to_one : {T : Type 0} (number : T → ℤ) (z : ℤ) (initial : List T) → map (λ (x : ℤ). z) (map number initial) ≡ replicate (length initial) z
mapped_to_one number z [] = refl
mapped_to_one number z (x ∷ xs) = ap (λ (l : List ℤ). z ∷ l) (mapped_to_one number z xs)
