use Rattle.std.proofs.Common.{◌≡◌, ◌+◌, ◌*◌, ◌/◌, ◌%◌, ◌++◌, ℕ, List, get_or, sym, ap, ◌∙◌, drop, length, length-drop, take, arith}
use Rattle.std.proofs.Math.ListN.{drop_of_length-le}
use Rattle.std.proofs.Math.Seq.{take-length}
use Rattle.sketch_base.specs.Validity.{bits_of, low_bits}
use Rattle.sketch_base.proofs.ValidBits.{drop-from, drop-from_byte, length-bits_of}
use Rattle.sketch_base.proofs.validity.Validity.new.Goals as goal

-- the bitmap ends before the bit
pub returns-then-skipped-bitmap : goal.returns-then-skipped-bitmap
returns-then-skipped-bitmap c =
    let number : length (bits_of c.args.bitmap.now) ≡ 8 * length c.args.bitmap.now = length-bits_of c.args.bitmap.now in
    sym (drop_of_length-le (bits_of c.args.bitmap.now) (omega (arith, number, c.if-skipped-bitmap.true)))

-- the bit stands in a byte
pub returns : goal.returns
returns c =
    let whole : c.args.first_bit ≡ 8 * (c.args.first_bit / 8) + c.args.first_bit % 8 = omega arith in
    let byte = drop-from (c.args.first_bit / 8) c.args.bitmap.now c.if-skipped-bitmap.false in
    let rest = ap (λ n. take n (drop (c.args.first_bit / 8 + 1) c.args.bitmap.now)) (sym (length-drop (c.args.first_bit / 8 + 1) c.args.bitmap.now)) ∙ take-length (drop (c.args.first_bit / 8 + 1) c.args.bitmap.now) in
    c.skip.ensures ∙ (ap (λ (xs : List ℕ). drop (c.args.first_bit % 8) (low_bits 8 (get_or c.args.bitmap.now (c.args.first_bit / 8) 0) ++ bits_of xs)) rest
    ∙ sym (ap (λ n. drop n (bits_of c.args.bitmap.now)) whole ∙ drop-from_byte (c.args.first_bit / 8) (c.args.first_bit % 8) c.args.bitmap.now _ _ byte))
