-- Bytes that are given by the first and the last of them, which meet or overlap.
use Rattle.std.proofs.Common.{◌≡◌, ◌+◌, ◌-◌, ◌*◌, ◌≤◌, ℕ, List, ◌++◌, length, length-append, take, drop, ap, sym, ◌∙◌, append_assoc, refl, arith}
use Rattle.std.proofs.Math.Seq.{take-append-add, take-append_seam}
use Rattle.std.proofs.lemmas.List.{length-drop, length-take-le, take_all, take-append-drop, take-take}
use Rattle.std.proofs.lemmas.Slice.{take-put_mid}
use borrow.Rule.Slice.PartMut.{put_mid}

-- the first w of a part, cut back, and then the last w
pub both_ends : (w : ℕ) (part first last : List ℕ) → w ≤ length part → length part ≤ 2 * w → first ≡ take w part → last ≡ take (length part - (length part - w)) (drop (length part - w) part) → take (length part - length last) first ++ last ≡ part
both_ends w part first last least most first_is last_is =
    let k : ℕ = length part - w in
    let is : last ≡ drop k part = last_is ∙ take_all (length part - k) (drop k part) (omega (arith, length-drop k part)) in
    let cut : length part - length last ≡ k = omega (arith, ap length is, length-drop k part) in
    ap (λ (n : ℕ). take n first ++ last) cut
    ∙ (ap (λ (l : List ℕ). take k l ++ last) first_is
    ∙ (ap (λ (l : List ℕ). l ++ last) (take-take k w part (omega arith))
    ∙ (ap (λ (l : List ℕ). take k part ++ l) is
    ∙ take-append-drop k part)))

-- the same behind a prefix of n bytes
pub prefixed_ends : (n w : ℕ) (prefix part first last : List ℕ) → length prefix ≡ n → w ≤ length part → length part ≤ 2 * w → first ≡ prefix ++ take w part → last ≡ take (length part - (length part - w)) (drop (length part - w) part) → take (n + length part - length last) first ++ last ≡ prefix ++ part
prefixed_ends n w prefix part first last size least most first_is last_is =
    let k : ℕ = length part - length last in
    let is : last ≡ drop (length part - w) part = last_is ∙ take_all (length part - (length part - w)) (drop (length part - w) part) (omega (arith, length-drop (length part - w) part)) in
    let cut : n + length part - length last ≡ length prefix + k = omega (arith, size, ap length is, length-drop (length part - w) part) in
    ap (λ (i : ℕ). take i first ++ last) cut
    ∙ (ap (λ (l : List ℕ). take (length prefix + k) l ++ last) first_is
    ∙ (ap (λ (l : List ℕ). l ++ last) (take-append-add prefix (take w part) k)
    ∙ (append_assoc prefix (take k (take w part)) last
    ∙ ap (λ (l : List ℕ). prefix ++ l) (both_ends w part (take w part) last least most refl last_is))))

-- the front of a buffer into which a prefix of four bytes was put, and the first w of a part behind it
pub prefixed_front : (w : ℕ) (prefix part before rest start : List ℕ) → length before ≡ 4 → before ≡ prefix → w ≤ length part → start ≡ take w part → take (4 + w) (put_mid 4 (4 + w - 4) (before ++ rest) start) ≡ prefix ++ take w part
prefixed_front w prefix part before rest start four same least start_is =
    let many : length start ≡ w = ap length start_is ∙ length-take-le w part least in
    take-put_mid 4 (4 + w - 4) (before ++ rest) start (4 + w) (omega (arith, many)) (omega (arith, four, length-append before rest))
    ∙ (ap (λ (l : List ℕ). l ++ start) (ap (λ (n : ℕ). take n (before ++ rest)) (sym four) ∙ take-append_seam before rest ∙ same)
    ∙ ap (λ (l : List ℕ). prefix ++ l) start_is)

pub length-prefixed_front : (w : ℕ) (prefix part before rest start : List ℕ) → length before ≡ 4 → before ≡ prefix → w ≤ length part → start ≡ take w part → length (take (4 + w) (put_mid 4 (4 + w - 4) (before ++ rest) start)) ≡ 4 + w
length-prefixed_front w prefix part before rest start four same least start_is =
    ap length (prefixed_front w prefix part before rest start four same least start_is)
    ∙ (length-append prefix (take w part) ∙ omega (arith, ap length same, four, length-take-le w part least))
