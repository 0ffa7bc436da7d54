-- A rotation by one shift of two copies.
use Rattle.std.proofs.Common.{◌≡◌, ℕ, ◌+◌, ◌-◌, ◌*◌, ◌/◌, ◌%◌, ◌^◌, ◌<◌, bit_and, bit_or, sym, ap, ◌∙◌, arith}
use Rattle.std.proofs.Math.Nat.{mul-div_cancel, div-le_self, mul_assoc}
use Rattle.std.proofs.lemmas.Nat.{and_mask, or_shr, or_mod, pow-add, pow_pos}
use Rattle.std.specs.Int.{w64, rotate_left}

-- a shift to the left by 64 and back by less
shifted : (x n m : ℕ) → n + m ≡ 64 → x * 2 ^ 64 / 2 ^ m ≡ x * 2 ^ n
shifted x n m e =
    let parts : 2 ^ 64 ≡ 2 ^ n * 2 ^ m = ap (λ (k : ℕ). 2 ^ k) (sym e) ∙ pow-add 2 n m in
    ap (λ (k : ℕ). k / 2 ^ m) (ap (λ (k : ℕ). x * k) parts ∙ sym (mul_assoc x (2 ^ n) (2 ^ m))) ∙ mul-div_cancel (x * 2 ^ n) (pow_pos m)

-- two copies, shifted and cut to 64 bits
pub twice_shifted : (x n : ℕ) → 0 < n → n < 64 → x < 2 ^ 64 → bit_and (bit_or (x * 2 ^ 64 % 2 ^ 128) x / 2 ^ (64 - n)) (2 ^ 64 - 1) ≡ rotate_left w64 x n
twice_shifted x n above below fits =
    let m : ℕ = 64 - n in
    let whole : x * 2 ^ 64 % 2 ^ 128 ≡ x * 2 ^ 64 = omega arith in
    let turn : n % 64 ≡ n = omega arith in
    let back : (64 - n % 64) % 64 ≡ m = omega arith in
    let low : x / 2 ^ m % 2 ^ 64 ≡ x / 2 ^ m = omega (arith, div-le_self x (2 ^ m)) in
    let high : x * 2 ^ 64 / 2 ^ m ≡ x * 2 ^ n = shifted x n m (omega arith) in
    and_mask (bit_or (x * 2 ^ 64 % 2 ^ 128) x / 2 ^ m) 64
    ∙ (ap (λ (k : ℕ). bit_or k x / 2 ^ m % 2 ^ 64) whole
    ∙ (ap (λ (k : ℕ). k % 2 ^ 64) (or_shr (x * 2 ^ 64) x m)
    ∙ (or_mod (x * 2 ^ 64 / 2 ^ m) (x / 2 ^ m) 64
    ∙ (ap (λ (k : ℕ). bit_or (k % 2 ^ 64) (x / 2 ^ m % 2 ^ 64)) high
    ∙ (ap (λ (k : ℕ). bit_or (x * 2 ^ n % 2 ^ 64) k) low
    ∙ (ap (λ (k : ℕ). bit_or (x * 2 ^ k % 2 ^ 64) (x / 2 ^ m)) (sym turn)
    ∙ ap (λ (k : ℕ). bit_or (x * 2 ^ (n % 64) % 2 ^ 64) (x / 2 ^ k)) (sym back)))))))
