-- Bytes that are kept while they are fewer than a block, and their hash.
use Rattle.std.proofs.Common.{◌≡◌, ℕ, ◌+◌, ◌-◌, ◌%◌, ◌/◌, ◌^◌, ◌<◌, ◌≤◌, inl, inr, List, [], ◌++◌, length, take, drop, replicate, refl, sym, ap, subst, ◌∙◌, arith, length-append, fold}
use Rattle.std.proofs.lemmas.Bool.{cases_lt, lt-ltb, le-ltb}
use Rattle.std.proofs.lemmas.List.{take-append-drop, take_all, length-take-le, length-replicate, drop-drop, drop-replicate}
use Rattle.std.proofs.lemmas.Slice.{take-put_mid, drop-put_mid}
use borrow.Rule.Slice.PartMut.{put_mid}
use Rattle.std.specs.List.{concat}
use Rattle.sketch_base.specs.Murmur3.{body, padded, finalization, murmur3_x64_128}
use Rattle.sketch_base.specs.ShortBytes.{keep, Keeps}
use Rattle.sketch_base.proofs.Blocks.{all_pieces}

-- ---- the bytes

keep_short : (kept piece : List ℕ) → length kept + length piece < 16 → keep kept piece ≡ kept ++ piece
unfolding keep
keep_short kept piece lt = rw (lt-ltb (length kept + length piece) 16 lt) refl

keep_long : (kept piece : List ℕ) → 16 ≤ length kept + length piece → keep kept piece ≡ padded kept
unfolding keep
keep_long kept piece le = rw (le-ltb (length kept + length piece) 16 le) refl

-- what is filled up has no room
padded_full : (kept : List ℕ) → 16 ≤ length (padded kept)
padded_full kept = omega (arith, length-append kept (replicate (16 - length kept) 0), length-replicate {A = ℕ} (16 - length kept) 0)

-- one piece more
keeps_more : (before piece kept : List ℕ) → Keeps before kept → Keeps (before ++ piece) (keep kept piece)
keeps_more before piece kept keeps = record {
  all = elim (cases_lt (length kept + length piece) 16) [
    | inl short ↦ λ few. keep_short kept piece short ∙ ap (λ xs. xs ++ piece) (keeps.all (omega arith))
    | inr long ↦ λ few. absurd (omega (arith, few, ap length (keep_long kept piece long), padded_full kept))
  ];
  few = λ few.
      let same : kept ≡ before = keeps.few (omega (arith, few, length-append before piece)) in
      keep_short kept piece (omega (arith, few, length-append before piece, ap length same)) ∙ ap (λ xs. xs ++ piece) same;
}

-- all pieces of an item
pub keeps_all : (start kept : List ℕ) (pieces : List (List ℕ)) → start ≡ [] → kept ≡ fold keep start pieces → Keeps (concat pieces) kept
keeps_all start kept pieces none e = subst (Keeps (concat pieces)) (sym e) (all_pieces keep Keeps keeps_more [] start pieces (record { all = λ few. none; few = λ few. none }))

-- ---- the fields under the view

-- the buffer has the bytes, and zeros
pub whole_buffer : (b : List ℕ) (n : ℕ) → length b ≡ 16 → n ≤ 16 → drop n b ≡ replicate (16 - n) 0 → padded (take n b) ≡ b
whole_buffer b n lb le zeros =
    ap (λ k. take n b ++ replicate (16 - k) 0) (length-take-le n b (omega (arith, lb)))
    ∙ (ap (λ zs. take n b ++ zs) (sym zeros) ∙ take-append-drop n b)

-- the zeros behind a short piece
pub zeros_behind : {width : ℕ} (b ys bs : List ℕ) (n k : ℕ) → length b ≡ width → drop n b ≡ replicate (width - n) 0 → ys ≡ bs → k ≡ length bs → n + length bs < width
    → drop (n + length bs) (put_mid n k b ys) ≡ replicate (width - (n + length bs)) 0
zeros_behind {width} b ys bs n k lb zeros same ek short =
    let past : drop (n + length bs) (put_mid n k b ys) ≡ drop (n + length bs) b = drop-put_mid n k b ys (n + length bs) (omega arith) (omega arith) (ap length same ∙ sym ek) in
    let left : drop (length bs) (drop n b) ≡ replicate (width - n - length bs) 0 = ap (drop (length bs)) zeros ∙ drop-replicate (length bs) (width - n) 0 in
    past ∙ (sym (drop-drop (length bs) n b) ∙ (left ∙ ap (λ (m : ℕ). replicate m 0) (omega arith)))

-- the bytes after a short piece
pub kept_short : (b ys bs : List ℕ) (n k : ℕ) → length b ≡ 16 → ys ≡ bs → n + length bs < 16 → take (n + length bs) (put_mid n k b ys) ≡ keep (take n b) bs
kept_short b ys bs n k lb same short =
    take-put_mid n k b ys (n + length bs) (omega (arith, ap length same)) (omega arith)
    ∙ (ap (λ xs. take n b ++ xs) same ∙ sym (keep_short (take n b) bs (omega (arith, length-take-le n b (omega (arith, lb))))))

-- and after one for which there is no room
pub kept_long : (b bs : List ℕ) (n : ℕ) → length b ≡ 16 → n ≤ 16 → drop n b ≡ replicate (16 - n) 0 → 16 - n ≤ length bs → take 16 b ≡ keep (take n b) bs
kept_long b bs n lb le zeros long =
    take_all 16 b (omega (arith, lb))
    ∙ (sym (whole_buffer b n lb le zeros) ∙ sym (keep_long (take n b) bs (omega (arith, length-take-le n b (omega (arith, lb))))))

-- ---- the hash

-- of fewer bytes than a block it is the finalization alone
pub hash_of_short : (bytes : List ℕ) (seed : ℕ) → length bytes < 16 → finalization (seed, seed) (padded bytes) (length bytes) ≡ murmur3_x64_128 bytes seed
unfolding murmur3_x64_128 body
hash_of_short bytes seed lt =
    let none : length bytes / 16 ≡ 0 = omega arith in
    let few : length bytes % 2 ^ 64 ≡ length bytes = omega arith in
    rw (none, few) refl

-- from the whole buffer
pub hash_of_buffer : (b kept : List ℕ) (n seed : ℕ) → length b ≡ 16 → n ≤ 16 → drop n b ≡ replicate (16 - n) 0 → take n b ≡ kept → length kept < 16 → finalization (seed, seed) b n ≡ murmur3_x64_128 kept seed
hash_of_buffer b kept n seed lb le zeros e lt =
    let len : n ≡ length kept = sym (length-take-le n b (omega (arith, lb))) ∙ ap length e in
    let whole : b ≡ padded kept = sym (whole_buffer b n lb le zeros) ∙ ap padded e in
    (λ i. finalization (seed, seed) (whole i) (len i)) ∙ hash_of_short kept seed lt
