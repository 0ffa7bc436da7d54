-- Numbers of bytes, the lowest first: their parts, and the words in a list.
use Rattle.std.proofs.Common.{◌≡◌, ℕ, zero, suc, ◌+◌, ◌-◌, ◌*◌, ◌/◌, ◌%◌, ◌^◌, ◌<◌, ◌≤◌, List, [], ◌∷◌, ◌++◌, length, get_or, take, drop, replicate, refl, sym, ap, subst, ◌∙◌, arith, length-drop}
use Rattle.std.proofs.Math.Nat.{div-div-eq-div-mul, pow-suc, mul_assoc, mul_comm}
use Rattle.std.proofs.lemmas.List.{drop-drop, drop-append-le, take-append-drop, take_all, length-take-le, get_or-drop, get_or-take}
use Rattle.std.proofs.lemmas.Nat.{pow-add}
use Rattle.std.specs.Int.{w32, w64, from_le_bytes}
use Rattle.sketch_base.specs.Fields.{le_at}
use Rattle.sketch_base.specs.MachineWords.{le_number, word_at, half_word_at}

-- each is below 256
abbrev pub AreBytes : List ℕ → Type 0
AreBytes bytes = (i : ℕ) → get_or bytes i 0 < 256

pub are-drop : (k : ℕ) (bytes : List ℕ) → AreBytes bytes → AreBytes (drop k bytes)
are-drop k bytes small = λ i. omega (arith, get_or-drop k bytes i 0, small (k + i))

pub are-more : (bytes : List ℕ) (last : ℕ) → AreBytes bytes → last < 256 → AreBytes (bytes ++ last ∷ [])
are-more [] last small lt zero = lt
are-more [] last small lt (suc i) = omega arith
are-more (b ∷ bytes) last small lt zero = small 0
are-more (b ∷ bytes) last small lt (suc i) = are-more bytes last (λ j. small (suc j)) lt i

pub are-take : (k : ℕ) (bytes : List ℕ) → AreBytes bytes → AreBytes (take k bytes)
are-take zero bytes small i = omega arith
are-take (suc k) [] small i = omega arith
are-take (suc k) (b ∷ bytes) small zero = small 0
are-take (suc k) (b ∷ bytes) small (suc i) = are-take k bytes (λ j. small (suc j)) i

zeros-are : (n i : ℕ) → get_or (replicate n 0) i 0 < 256
zeros-are zero i = omega arith
zeros-are (suc n) zero = omega arith
zeros-are (suc n) (suc i) = zeros-are n i

pub are-filled : (bytes : List ℕ) (n : ℕ) → AreBytes bytes → AreBytes (bytes ++ replicate n 0)
are-filled [] n small i = zeros-are n i
are-filled (b ∷ bytes) n small zero = small 0
are-filled (b ∷ bytes) n small (suc i) = are-filled bytes n (λ j. small (suc j)) i

-- ---- numbers of parts

one-more : (n : ℕ) → 256 ^ suc n ≡ 256 * 256 ^ n
one-more n = pow-suc 256 n ∙ mul_comm (256 ^ n) 256

pub pow256 : (n : ℕ) → 256 ^ n ≡ 2 ^ (8 * n)
pow256 zero = refl
pow256 (suc n) = one-more n ∙ (ap (λ (p : ℕ). 256 * p) (pow256 n) ∙ (sym (pow-add 2 8 (8 * n)) ∙ ap (λ (k : ℕ). 2 ^ k) (omega arith)))

scaled : (b p x y z : ℕ) → z ≡ p * y → b + 256 * (x + z) ≡ b + 256 * x + 256 * p * y
scaled b p x y z e = omega (arith, e, mul_assoc 256 p y)

pub number-append : (front back : List ℕ) → le_number (front ++ back) ≡ le_number front + 256 ^ length front * le_number back
number-append [] back = omega arith
number-append (b ∷ front) back =
    ap (λ (n : ℕ). b + 256 * n) (number-append front back)
    ∙ (scaled b (256 ^ length front) (le_number front) (le_number back) _ refl
    ∙ ap (λ (p : ℕ). b + 256 * le_number front + p * le_number back) (sym (one-more (length front))))

pub number-zeros : (bytes : List ℕ) (n : ℕ) → le_number (bytes ++ replicate n 0) ≡ le_number bytes
number-zeros [] zero = refl
number-zeros [] (suc n) = omega (arith, number-zeros [] n)
number-zeros (b ∷ bytes) n = ap (λ (m : ℕ). b + 256 * m) (number-zeros bytes n)

pub number-drop : (k : ℕ) (bytes : List ℕ) → AreBytes bytes → le_number (drop k bytes) ≡ le_number bytes / 256 ^ k
number-drop zero bytes small = omega arith
number-drop (suc k) [] small = omega arith
number-drop (suc k) (b ∷ bytes) small =
    let low : b < 256 = small 0 in
    let rest : le_number bytes ≡ (b + 256 * le_number bytes) / 256 = omega arith in
    number-drop k bytes (λ i. small (suc i))
    ∙ (ap (λ (n : ℕ). n / 256 ^ k) rest
    ∙ (div-div-eq-div-mul (b + 256 * le_number bytes) 256 (256 ^ k)
    ∙ ap (λ (p : ℕ). (b + 256 * le_number bytes) / p) (sym (one-more k))))

pub number-below : (bytes : List ℕ) → AreBytes bytes → le_number bytes < 256 ^ length bytes
number-below [] small = omega arith
number-below (b ∷ bytes) small = omega (arith, small 0, number-below bytes (λ i. small (suc i)), one-more (length bytes))

-- ---- words

eight : (bytes : List ℕ) → length bytes ≡ 8 → from_le_bytes w64 bytes ≡ le_number bytes
eight [] l = absurd (omega arith)
eight (a ∷ []) l = absurd (omega arith)
eight (a ∷ b ∷ []) l = absurd (omega arith)
eight (a ∷ b ∷ c ∷ []) l = absurd (omega arith)
eight (a ∷ b ∷ c ∷ d ∷ []) l = absurd (omega arith)
eight (a ∷ b ∷ c ∷ d ∷ e ∷ []) l = absurd (omega arith)
eight (a ∷ b ∷ c ∷ d ∷ e ∷ f ∷ []) l = absurd (omega arith)
eight (a ∷ b ∷ c ∷ d ∷ e ∷ f ∷ g ∷ []) l = absurd (omega arith)
eight (a ∷ b ∷ c ∷ d ∷ e ∷ f ∷ g ∷ h ∷ []) l = omega arith
eight (a ∷ b ∷ c ∷ d ∷ e ∷ f ∷ g ∷ h ∷ x ∷ bytes) l = absurd (omega arith)

four : (bytes : List ℕ) → length bytes ≡ 4 → from_le_bytes w32 bytes ≡ le_number bytes
four [] l = absurd (omega arith)
four (a ∷ []) l = absurd (omega arith)
four (a ∷ b ∷ []) l = absurd (omega arith)
four (a ∷ b ∷ c ∷ []) l = absurd (omega arith)
four (a ∷ b ∷ c ∷ d ∷ []) l = omega arith
four (a ∷ b ∷ c ∷ d ∷ x ∷ bytes) l = absurd (omega arith)

-- a byte of a part
part : (k n : ℕ) (bytes : List ℕ) (i j : ℕ) → i < n → k + i ≡ j → get_or bytes j 0 ≡ get_or (take n (drop k bytes)) i 0
part k n bytes i j lt e = sym (get_or-take n (drop k bytes) i 0 lt ∙ (get_or-drop k bytes i 0 ∙ ap (λ (m : ℕ). get_or bytes m 0) e))

pub word_is : (bytes : List ℕ) (k : ℕ) → k + 8 ≤ length bytes → word_at bytes k ≡ le_number (take 8 (drop k bytes))
word_is bytes k le =
    let p0 : get_or bytes k 0 ≡ get_or (take 8 (drop k bytes)) 0 0 = part k 8 bytes 0 k (omega arith) (omega arith) in
    let p1 = part k 8 bytes 1 (k + 1) (omega arith) refl in
    let p2 = part k 8 bytes 2 (k + 2) (omega arith) refl in
    let p3 = part k 8 bytes 3 (k + 3) (omega arith) refl in
    let p4 = part k 8 bytes 4 (k + 4) (omega arith) refl in
    let p5 = part k 8 bytes 5 (k + 5) (omega arith) refl in
    let p6 = part k 8 bytes 6 (k + 6) (omega arith) refl in
    let p7 = part k 8 bytes 7 (k + 7) (omega arith) refl in
    (λ i. from_le_bytes w64 (p0 i ∷ p1 i ∷ p2 i ∷ p3 i ∷ p4 i ∷ p5 i ∷ p6 i ∷ p7 i ∷ []))
    ∙ eight (take 8 (drop k bytes)) (length-take-le 8 (drop k bytes) (omega (arith, length-drop k bytes)))

-- numbers of eight bytes and of four
pub u64_is : (bytes : List ℕ) (k : ℕ) → k + 8 ≤ length bytes → le_at w64 bytes k ≡ le_number (take 8 (drop k bytes))
unfolding le_at
u64_is bytes k le = eight (take 8 (drop k bytes)) (length-take-le 8 (drop k bytes) (omega (arith, length-drop k bytes)))

pub u32_is : (bytes : List ℕ) (k : ℕ) → k + 4 ≤ length bytes → le_at w32 bytes k ≡ le_number (take 4 (drop k bytes))
unfolding le_at
u32_is bytes k le = four (take 4 (drop k bytes)) (length-take-le 4 (drop k bytes) (omega (arith, length-drop k bytes)))

-- the two words of a block
pub low_word : (bytes : List ℕ) → 8 ≤ length bytes → AreBytes bytes → word_at bytes 0 ≡ le_number bytes % 2 ^ 64
low_word bytes le small =
    let long : length (take 8 bytes) ≡ 8 = length-take-le 8 bytes le in
    let below : le_number (take 8 bytes) < 256 ^ 8 = subst (λ (n : ℕ). le_number (take 8 bytes) < 256 ^ n) long (number-below (take 8 bytes) (are-take 8 bytes small)) in
    let parts : le_number bytes ≡ le_number (take 8 bytes) + 256 ^ 8 * le_number (drop 8 bytes) = ap le_number (sym (take-append-drop 8 bytes)) ∙ (number-append (take 8 bytes) (drop 8 bytes) ∙ ap (λ (n : ℕ). le_number (take 8 bytes) + 256 ^ n * le_number (drop 8 bytes)) long) in
    word_is bytes 0 le ∙ omega (arith, parts, below)

pub high_word : (bytes : List ℕ) → length bytes ≡ 16 → AreBytes bytes → word_at bytes 8 ≡ le_number bytes / 2 ^ 64
high_word bytes l small =
    word_is bytes 8 (omega arith) ∙ (ap le_number (take_all 8 (drop 8 bytes) (omega (arith, length-drop 8 bytes))) ∙ number-drop 8 bytes small)

pub low_half : (bytes : List ℕ) → 4 ≤ length bytes → AreBytes bytes → half_word_at bytes 0 ≡ le_number bytes % 2 ^ 32
low_half [] le small = absurd (omega arith)
low_half (a ∷ []) le small = absurd (omega arith)
low_half (a ∷ b ∷ []) le small = absurd (omega arith)
low_half (a ∷ b ∷ c ∷ []) le small = absurd (omega arith)
low_half (a ∷ b ∷ c ∷ d ∷ bytes) le small =
    let la : a < 256 = small 0 in
    let lb : b < 256 = small 1 in
    let lc : c < 256 = small 2 in
    let ld : d < 256 = small 3 in
    omega arith

-- the number of the last r bytes and one more, from that of the last m + 1 bytes
pub last_is : (m r s last : ℕ) (bytes : List ℕ) → suc m ≤ length bytes → s + 8 * r ≡ 8 * m → AreBytes bytes → last < 256
    → (le_number (drop (length bytes - suc m) bytes) / 256 + last * 2 ^ (8 * m)) / 2 ^ s ≡ le_number (drop (length bytes - r) bytes ++ last ∷ [])
last_is m r s last bytes le e small lt =
    let k : ℕ = length bytes - suc m in
    let d : ℕ = m - r in
    let whole : List ℕ = drop k bytes ++ last ∷ [] in
    let are : AreBytes whole = are-more (drop k bytes) last (are-drop k bytes small) lt in
    let many : length (drop k bytes) ≡ suc m = length-drop k bytes ∙ omega arith in
    let number : le_number whole ≡ le_number (drop k bytes) + 256 * (256 ^ m * last) = number-append (drop k bytes) (last ∷ []) ∙ (ap (λ (n : ℕ). le_number (drop k bytes) + 256 ^ n * (last + 256 * 0)) many ∙ omega (arith, ap (λ (p : ℕ). p * last) (one-more m), mul_assoc 256 (256 ^ m) last)) in
    let one : le_number (drop k bytes) / 256 + last * 2 ^ (8 * m) ≡ le_number (drop 1 whole) = ap (λ (p : ℕ). le_number (drop k bytes) / 256 + last * p) (sym (pow256 m)) ∙ (omega (arith, number) ∙ sym (number-drop 1 whole are)) in
    let rest : drop d (drop 1 whole) ≡ drop (length bytes - r) bytes ++ last ∷ [] =
    drop-drop d 1 whole ∙ (drop-append-le (1 + d) (drop k bytes) (last ∷ []) (omega (arith, many))
    ∙ ap (λ (bs : List ℕ). bs ++ last ∷ []) (drop-drop (1 + d) k bytes ∙ ap (λ (n : ℕ). drop n bytes) (omega arith))) in
    ap (λ (n : ℕ). n / 2 ^ s) one
    ∙ (ap (λ (p : ℕ). le_number (drop 1 whole) / p) (ap (λ (n : ℕ). 2 ^ n) (omega arith) ∙ sym (pow256 d))
    ∙ (sym (number-drop d (drop 1 whole) (are-drop 1 whole are)) ∙ ap le_number rest))
