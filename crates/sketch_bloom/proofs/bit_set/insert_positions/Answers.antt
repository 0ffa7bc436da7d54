use Rattle.std.proofs.Common.{◌≡◌, ℕ, List, ◌+◌, ◌*◌, ◌/◌, ◌%◌, ◌^◌, ◌<◌, ◌==◌, length, get_or, set, bit_and, bit_or, sym, ap, subst, ◌∙◌, arith}
use mir.Val.{bool_byte}
use Rattle.std.proofs.Math.Nat.{mod-eq_of_lt}
use Rattle.std.specs.FinSet as numbers
use Rattle.sketch_bloom.specs.BitSet.{Numbers}
use Rattle.sketch_bloom.specs.Positions.{position, positions}
use Rattle.sketch_bloom.proofs.Placing.{Inserts, counted_test, inserts_none, inserts_one, positions-zero, positions-suc, running_sum, place_is}
use Rattle.sketch_bloom.proofs.bit_set.insert_positions.Goals as goal

pub inserts-init : goal.inserts-init
inserts-init c =
    let none : c.args.h0 + 0 * c.args.h1 ≡ c.args.h0 = omega arith in (
      sym (ap (λ n. n % 2 ^ 64) none ∙ mod-eq_of_lt c.ranges.h0.fits),
      omega arith,
      inserts_none c.args.words.now (positions c.args.capacity 0 c.args.h0 c.args.h1) (positions-zero c.args.capacity c.args.h0 c.args.h1),
    )

pub inserts-preserved : goal.inserts-preserved
inserts-preserved c =
    let old : List ℕ = c.args.words.now in
    let words : List ℕ = c.inserts.words in
    let p : ℕ = c.index_of-index.result in
    let placed : Numbers = positions c.args.capacity c.inserts._i c.args.h0 c.args.h1 in
    let index : c.index_of-index.result ≡ position c.args.capacity c.args.h0 c.args.h1 (c.inserts._i + 1) = place_is c.args.capacity c.args.h0 c.args.h1 c.inserts._i c.inserts.hash c.index_of-index.result c.inserts.invariant.0 c.index_of-index.ensures.value in
    let below : c.index_of-index.result < 64 * length c.inserts.words = omega arith in
    let next : numbers.insert placed p ≡ positions c.args.capacity (c.inserts._i + 1) c.args.h0 c.args.h1 = ap (numbers.insert placed) index ∙ sym (positions-suc c.args.capacity c.inserts._i c.args.h0 c.args.h1) in (
      running_sum c.args.h0 c.args.h1 c.inserts._i c.inserts.hash c.inserts.invariant.0,
      omega (arith, counted_test (bit_and (get_or words (p / 64) 0 / 2 ^ (p % 64)) 1 == 0)),
      subst (λ (s : Numbers). Inserts old s (set words (p / 64) (bit_or (get_or words (p / 64) 0) (1 * 2 ^ (p % 64) % 2 ^ 64))) (c.inserts.added + bool_byte (bit_and (get_or words (p / 64) 0 / 2 ^ (p % 64)) 1 == 0))) next
          (inserts_one old placed words c.inserts.added p below c.inserts.invariant.2),
    )

pub returns : goal.returns
returns c =
    let all : c.inserts._i ≡ c.args.num_hashes = omega arith in
    let done : Inserts c.args.words.now (positions c.args.capacity c.args.num_hashes c.args.h0 c.args.h1) c.inserts.words c.inserts.added = subst (λ n. Inserts c.args.words.now (positions c.args.capacity n c.args.h0 c.args.h1) c.inserts.words c.inserts.added) all c.inserts.invariant.2 in
    record { union = done.union; added = done.count; contained = done.contained }
