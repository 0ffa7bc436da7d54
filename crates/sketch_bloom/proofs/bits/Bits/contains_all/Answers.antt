use Rattle.std.proofs.Common.{◌≡◌, ◌+◌, ◌-◌, ◌++◌, ℕ, Bool, List, length, map, take, ap, subst, ◌∙◌, arith}
use Rattle.std.proofs.lemmas.List.{length-map, length-take-le}
use borrow.Rule.Slice.PartMut.{put_mid}
use Rattle.sketch_bloom.specs.Pairs.{pair_of, contains_pair}
use Rattle.sketch_bloom.specs.State.{FilterState, contains_item}
use Rattle.sketch_bloom.proofs.Batches.{block_written, all_written, mapped_block}
use Rattle.sketch_bloom.proofs.bits.Bits.contains_all.Goals as goal

pub each-preserved : goal.each-preserved
each-preserved g c =
    let s : FilterState = c.args.self.now in
    let answer : List ℕ → Bool = contains_item s in
    let items = g.I.Items.list c.each.items in
    let rest = g.I.Items.list c.next_pairs-count.new.items in
    let from : ℕ = c.each.from in
    let count : ℕ = c.next_pairs-count.result in
    let block = take count c.next_pairs-count.new.pairs in
    let new = c.contains_pairs.new.answers in
    let hashed : map (pair_of s.seed) items ≡ block ++ map (pair_of s.seed) rest =
    subst (λ (t : FilterState). map (pair_of t.seed) items ≡ block ++ map (pair_of t.seed) rest) c.self.view_is c.next_pairs-count.ensures.hashed in
    let sized : length new ≡ count =
    ap length c.contains_pairs.ensures ∙ length-map block (contains_pair s) ∙ length-take-le count c.next_pairs-count.new.pairs c.next_pairs-count.ensures.few in
    block_written (map answer (g.I.Items.list c.args.items)) (map answer items) (map answer rest) new c.each.answers from count (from + count - from)
    (omega arith) sized (mapped_block (pair_of s.seed) (contains_pair s) items rest block new hashed c.contains_pairs.ensures) c.each.invariant

pub returns-then-count-lt-BLOCK : goal.returns-then-count-lt-BLOCK
returns-then-count-lt-BLOCK g c =
    let s : FilterState = c.args.self.now in
    let answer : List ℕ → Bool = contains_item s in
    let items = g.I.Items.list c.each.items in
    let rest = g.I.Items.list c.next_pairs-count.new.items in
    let from : ℕ = c.each.from in
    let count : ℕ = c.next_pairs-count.result in
    let block = take count c.next_pairs-count.new.pairs in
    let new = c.contains_pairs.new.answers in
    let hashed : map (pair_of s.seed) items ≡ block ++ map (pair_of s.seed) rest =
    subst (λ (t : FilterState). map (pair_of t.seed) items ≡ block ++ map (pair_of t.seed) rest) c.self.view_is c.next_pairs-count.ensures.hashed in
    let sized : length new ≡ count =
    ap length c.contains_pairs.ensures ∙ length-map block (contains_pair s) ∙ length-take-le count c.next_pairs-count.new.pairs c.next_pairs-count.ensures.few in
    all_written (map answer (g.I.Items.list c.args.items)) (map answer rest) (put_mid from (from + count - from) c.each.answers new) (from + count)
    (ap (map answer) (c.next_pairs-count.ensures.all (omega arith)))
    (block_written (map answer (g.I.Items.list c.args.items)) (map answer items) (map answer rest) new c.each.answers from count (from + count - from)
    (omega arith) sized (mapped_block (pair_of s.seed) (contains_pair s) items rest block new hashed c.contains_pairs.ensures) c.each.invariant)
