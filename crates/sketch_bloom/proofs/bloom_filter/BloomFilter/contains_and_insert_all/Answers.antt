use Rattle.std.proofs.Common.{◌≡◌, ◌+◌, ◌-◌, ◌++◌, ℕ, length, map, take, refl, sym, ap, subst, ◌∙◌, arith}
use Rattle.std.specs.List.{fold}
use Rattle.std.proofs.lemmas.List.{append-nil, length-append, length-map, length-take-le}
use Rattle.std.proofs.lemmas.List.Sums.{fold-append}
use borrow.Rule.Slice.PartMut.{put_mid}
use Rattle.sketch_bloom.specs.History.{all_inserted_after}
use Rattle.sketch_bloom.specs.Pairs.{pair_of, with_pair, pairs_contained}
use Rattle.sketch_bloom.specs.Stands.{StandsFor}
use Rattle.sketch_bloom.specs.State.{FilterState, IsFilterState}
use Rattle.sketch_bloom.proofs.Answering.{answers_are, contained_block, length-pairs_contained}
use Rattle.sketch_bloom.proofs.Batches.{all_written, block_fits, block_written}
use Rattle.sketch_bloom.proofs.Inserting.{all_inserted_is, all_inserted_state, all_inserted_stands}
use Rattle.sketch_bloom.proofs.bloom_filter.BloomFilter.contains_and_insert_all.Goals as goal

pub each-init : goal.each-init
each-init g c =
    let pairs = map (pair_of c.seed-seed.result) (g.I.Items.list c.args.items) in (
      (
        c.requires ∙ sym (length-map (g.I.Items.list c.args.items) (pair_of c.seed-seed.result)) ∙ sym (length-pairs_contained c.args.self.now pairs),
        omega arith,
        refl {a = pairs_contained c.args.self.now pairs},
      ),
      refl {a = fold with_pair c.args.self.now pairs},
    )

pub slice_bounds-contains_and_insert_pairs-end-in-each : goal.slice_bounds-contains_and_insert_pairs-end-in-each
slice_bounds-contains_and_insert_pairs-end-in-each g c =
    let s : FilterState = c.each.self in
    let f = pair_of c.seed-seed.result in
    let count : ℕ = c.next_pairs-count.result in
    let block = take count c.next_pairs-count.new.pairs in
    let items = map f (g.I.Items.list c.each.items) in
    let rest = map f (g.I.Items.list c.next_pairs-count.new.items) in
    let sized : length (pairs_contained s block) ≡ count =
    length-pairs_contained s block ∙ length-take-le count c.next_pairs-count.new.pairs c.next_pairs-count.ensures.few in
    block_fits (pairs_contained c.args.self.now (map f (g.I.Items.list c.args.items))) (pairs_contained s items) (pairs_contained (fold with_pair s block) rest)
    (pairs_contained s block) c.each.answers c.each.from count sized
    (contained_block s (fold with_pair s block) items block rest (pairs_contained s block) c.next_pairs-count.ensures.hashed refl refl) c.each.invariant.0

pub each-smaller : goal.each-smaller
each-smaller g c =
    let f = pair_of c.seed-seed.result in
    let count : ℕ = c.next_pairs-count.result in
    let items = g.I.Items.list c.each.items in
    let rest = g.I.Items.list c.next_pairs-count.new.items in
    let taken : length items ≡ count + length rest =
    sym (length-map items f)
    ∙ ap length c.next_pairs-count.ensures.hashed
    ∙ length-append (take count c.next_pairs-count.new.pairs) (map f rest)
    ∙ (λ k. length-take-le count c.next_pairs-count.new.pairs c.next_pairs-count.ensures.few k + length-map rest f k) in
    omega (arith, taken)

pub each-preserved : goal.each-preserved
each-preserved g c =
    let s : FilterState = c.each.self in
    let f = pair_of c.seed-seed.result in
    let from : ℕ = c.each.from in
    let count : ℕ = c.next_pairs-count.result in
    let block = take count c.next_pairs-count.new.pairs in
    let items = map f (g.I.Items.list c.each.items) in
    let rest = map f (g.I.Items.list c.next_pairs-count.new.items) in
    let next : FilterState = c.contains_and_insert_pairs.new.self in
    let new = c.contains_and_insert_pairs.new.answers in
    let hashed : items ≡ block ++ rest = c.next_pairs-count.ensures.hashed in
    let sized : length new ≡ count =
    ap length c.contains_and_insert_pairs.ensures.answers ∙ length-pairs_contained s block
    ∙ length-take-le count c.next_pairs-count.new.pairs c.next_pairs-count.ensures.few in (
      block_written (pairs_contained c.args.self.now (map f (g.I.Items.list c.args.items))) (pairs_contained s items) (pairs_contained next rest) new
          c.each.answers from count (from + count - from) (omega arith) sized
          (contained_block s next items block rest new hashed c.contains_and_insert_pairs.ensures.answers c.contains_and_insert_pairs.ensures.insertions)
          c.each.invariant.0,
      ap (λ (t : FilterState). fold with_pair t rest) c.contains_and_insert_pairs.ensures.insertions
          ∙ sym (fold-append with_pair s block rest)
          ∙ ap (fold with_pair s) (sym hashed)
          ∙ c.each.invariant.1,
    )

pub returns-then-count-lt-BLOCK-clause-answers : goal.returns-then-count-lt-BLOCK-clause-answers
returns-then-count-lt-BLOCK-clause-answers g c =
    let old : FilterState = c.args.self.now in
    let inputs = g.I.Items.list c.args.items in
    let s : FilterState = c.each.self in
    let f = pair_of c.seed-seed.result in
    let from : ℕ = c.each.from in
    let count : ℕ = c.next_pairs-count.result in
    let block = take count c.next_pairs-count.new.pairs in
    let items = map f (g.I.Items.list c.each.items) in
    let rest = map f (g.I.Items.list c.next_pairs-count.new.items) in
    let next : FilterState = c.contains_and_insert_pairs.new.self in
    let new = c.contains_and_insert_pairs.new.answers in
    let hashed : items ≡ block ++ rest = c.next_pairs-count.ensures.hashed in
    let sized : length new ≡ count =
    ap length c.contains_and_insert_pairs.ensures.answers ∙ length-pairs_contained s block
    ∙ length-take-le count c.next_pairs-count.new.pairs c.next_pairs-count.ensures.few in
    let none = c.next_pairs-count.ensures.all (omega arith) in
    let seeded : c.seed-seed.result ≡ old.seed = c.seed-seed.ensures ∙ ap (λ (t : FilterState). t.seed) c.self.view_is in
    all_written (pairs_contained old (map f inputs)) (pairs_contained next rest) (put_mid from (from + count - from) c.each.answers new) (from + count)
    (ap (λ xs. pairs_contained next (map f xs)) none)
    (block_written (pairs_contained old (map f inputs)) (pairs_contained s items) (pairs_contained next rest) new
    c.each.answers from count (from + count - from) (omega arith) sized
    (contained_block s next items block rest new hashed c.contains_and_insert_pairs.ensures.answers c.contains_and_insert_pairs.ensures.insertions)
    c.each.invariant.0)
    ∙ ap (λ (n : ℕ). pairs_contained old (map (pair_of n) inputs)) seeded
    ∙ answers_are old inputs

pub returns-then-count-lt-BLOCK-clause-insertions : goal.returns-then-count-lt-BLOCK-clause-insertions
returns-then-count-lt-BLOCK-clause-insertions g c =
    let old : FilterState = c.args.self.now in
    let inputs = g.I.Items.list c.args.items in
    let f = pair_of c.seed-seed.result in
    let count : ℕ = c.next_pairs-count.result in
    let block = take count c.next_pairs-count.new.pairs in
    let seeded : c.seed-seed.result ≡ old.seed = c.seed-seed.ensures ∙ ap (λ (t : FilterState). t.seed) c.self.view_is in
    let none = c.next_pairs-count.ensures.all (omega arith) in
    let whole : map f (g.I.Items.list c.each.items) ≡ block =
    c.next_pairs-count.ensures.hashed ∙ ap (λ xs. block ++ map f xs) none ∙ append-nil block in
    c.contains_and_insert_pairs.ensures.insertions
    ∙ ap (fold with_pair c.each.self) (sym whole)
    ∙ c.each.invariant.1
    ∙ ap (λ (n : ℕ). fold with_pair old (map (pair_of n) inputs)) seeded
    ∙ all_inserted_is old inputs

pub returns-then-count-lt-BLOCK-clause-state : goal.returns-then-count-lt-BLOCK-clause-state
returns-then-count-lt-BLOCK-clause-state g c =
    let state : IsFilterState c.args.self.now = subst (λ (s : FilterState). IsFilterState s) c.self.view_is c.self.invariant.state in
    subst (λ (s : FilterState). IsFilterState s) (sym (returns-then-count-lt-BLOCK-clause-insertions g c)) (all_inserted_state c.args.self.now (g.I.Items.list c.args.items) state)

pub returns-then-count-lt-BLOCK-clause-stands : goal.returns-then-count-lt-BLOCK-clause-stands
returns-then-count-lt-BLOCK-clause-stands g c = λ h e.
    let inputs = g.I.Items.list c.args.items in
    subst (λ (s : FilterState). StandsFor s (all_inserted_after h inputs)) (sym (returns-then-count-lt-BLOCK-clause-insertions g c)) (all_inserted_stands c.args.self.now h inputs e)
