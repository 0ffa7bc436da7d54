use Rattle.std.proofs.Common.{◌≡◌, ℕ, ◌+◌, ◌*◌, ◌<◌, ◌≤◌, List, [], ◌∷◌, ◌++◌, length, get_or, take, sym, ap, ◌∙◌, arith}
use Rattle.std.specs.Int.{w64, to_le_bytes}
use Rattle.std.proofs.lemmas.List.{take_all, take_more}
use Rattle.std.proofs.lemmas.List.Concat.{flat_map-append}
use Rattle.std.proofs.lemmas.Slice.{take-put_mid}
use Rattle.sketch_base.specs.Fields.{bytes_of_words}
use Rattle.sketch_bloom.proofs.image.write_words.Goals as goal

pub loop-i-preserved : goal.loop-i-preserved
loop-i-preserved c =
    let i : ℕ = c.loop-i.i in
    let words : List ℕ = c.args.words.now in
    let word : ℕ = get_or words i 0 in
    let bytes : List ℕ = c.copy_from_slice.new.self in
    let bytes_are : bytes ≡ to_le_bytes w64 word = c.copy_from_slice.ensures.after ∙ c.to_le_bytes.ensures in
    let long : length bytes ≡ 8 = ap length bytes_are in
    let within : i < length words = c.loop-i-test.true in
    let room : 8 * i ≤ length c.loop-i.out = omega (arith, within, c.loop-i.auto.out, c.requires) in
    let more : bytes_of_words (take (i + 1) words) ≡ bytes_of_words (take i words) ++ to_le_bytes w64 word =
    ap bytes_of_words (take_more words i 0 within) ∙ flat_map-append (to_le_bytes w64) (take i words) (word ∷ []) in
    take-put_mid (8 * i) _ c.loop-i.out bytes (8 * (i + 1)) (omega arith) room
    ∙ (ap (λ (bs : List ℕ). bs ++ bytes) c.loop-i.invariant
    ∙ (ap (λ (bs : List ℕ). bytes_of_words (take i words) ++ bs) bytes_are ∙ sym more))

pub returns : goal.returns
returns c =
    let words : List ℕ = c.args.words.now in
    let all_bytes : take (8 * c.loop-i.i) c.loop-i.out ≡ c.loop-i.out = take_all (8 * c.loop-i.i) c.loop-i.out (omega (arith, c.loop-i-test.false, c.loop-i.auto.out, c.requires)) in
    let all_words : take c.loop-i.i words ≡ words = take_all c.loop-i.i words (omega (arith, c.loop-i-test.false)) in
    sym all_bytes ∙ (c.loop-i.invariant ∙ ap bytes_of_words all_words)
