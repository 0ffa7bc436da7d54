use Rattle.std.proofs.Common.{◌≡◌, ◌++◌, ℕ, map, take, sym, ap, subst, ◌∙◌, arith}
use Rattle.std.specs.List.{fold}
use Rattle.std.proofs.lemmas.List.{append-nil}
use Rattle.sketch_bloom.specs.History.{all_inserted_after}
use Rattle.sketch_bloom.specs.Pairs.{pair_of, with_pair}
use Rattle.sketch_bloom.specs.Stands.{StandsFor}
use Rattle.sketch_bloom.specs.State.{FilterState, IsFilterState}
use Rattle.sketch_bloom.proofs.Inserting.{all_inserted_is, all_inserted_state, all_inserted_stands}
use Rattle.sketch_bloom.proofs.bloom_filter.BloomFilter.insert_all.Goals as goal

pub returns-then-count-lt-BLOCK-clause-insertions : goal.returns-then-count-lt-BLOCK-clause-insertions
returns-then-count-lt-BLOCK-clause-insertions g c =
    let s : FilterState = c.args.self.now in
    let inputs = g.I.Items.list c.args.items in
    let f = pair_of c.seed-seed.result in
    let count : ℕ = c.next_pairs-count.result in
    let pairs = c.next_pairs-count.new.pairs in
    let seeded : c.seed-seed.result ≡ s.seed = c.seed-seed.ensures ∙ ap (λ (t : FilterState). t.seed) c.self.view_is in
    let none = c.next_pairs-count.ensures.all (omega arith) in
    let whole : map f (g.I.Items.list c.each.items) ≡ take count pairs =
    c.next_pairs-count.ensures.hashed ∙ ap (λ xs. take count pairs ++ map f xs) none ∙ append-nil (take count pairs) in
    c.insert_pairs.ensures
    ∙ ap (fold with_pair c.each.self) (sym whole)
    ∙ c.each.invariant
    ∙ ap (λ (n : ℕ). fold with_pair s (map (pair_of n) inputs)) seeded
    ∙ all_inserted_is s inputs

pub returns-then-count-lt-BLOCK-clause-state : goal.returns-then-count-lt-BLOCK-clause-state
returns-then-count-lt-BLOCK-clause-state g c =
    let state : IsFilterState c.args.self.now = subst (λ (s : FilterState). IsFilterState s) c.self.view_is c.self.invariant.state in
    subst (λ (s : FilterState). IsFilterState s) (sym (returns-then-count-lt-BLOCK-clause-insertions g c)) (all_inserted_state c.args.self.now (g.I.Items.list c.args.items) state)

pub returns-then-count-lt-BLOCK-clause-stands : goal.returns-then-count-lt-BLOCK-clause-stands
returns-then-count-lt-BLOCK-clause-stands g c = λ h e.
    let inputs = g.I.Items.list c.args.items in
    subst (λ (s : FilterState). StandsFor s (all_inserted_after h inputs)) (sym (returns-then-count-lt-BLOCK-clause-insertions g c)) (all_inserted_stands c.args.self.now h inputs e)
