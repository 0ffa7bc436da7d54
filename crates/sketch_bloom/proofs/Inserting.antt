-- Items inserted: the state, and the history that it stands for.
use Rattle.std.proofs.Common.{◌≡◌, ℕ, ◌*◌, ◌<◌, true, false, ◌||◌, [], ◌∷◌, List, map, refl, sym, ◌∙◌, arith}
use Rattle.std.specs.List.{fold}
use Rattle.std.specs.FinSet as set
use Rattle.sketch_bloom.specs.History.{BloomHistory, all_inserted_after}
use Rattle.sketch_bloom.specs.History.BloomHistory.{Insert}
use Rattle.sketch_bloom.specs.Pairs.{pair_of, with_pair}
use Rattle.sketch_bloom.specs.Positions.{positions, positions_of}
use Rattle.sketch_bloom.specs.Stands.{StandsFor}
use Rattle.sketch_bloom.specs.State.{FilterState, IsFilterState, capacity_of, inserted, all_inserted}
use Rattle.sketch_bloom.proofs.Placing.{positions_below}
use Rattle.sketch_bloom.proofs.Sets.{contains-union}

-- many insertions, by the pairs of hashes
pub all_inserted_is : (s : FilterState) (inputs : List (List ℕ)) → fold with_pair s (map (pair_of s.seed) inputs) ≡ all_inserted s inputs
all_inserted_is s [] = refl
all_inserted_is s (x ∷ xs) = all_inserted_is (inserted s x) xs

-- what holds of a filter holds of it with the positions of two hashes
with_pair_state : (s : FilterState) (pair : ℕ × ℕ) → IsFilterState s → IsFilterState (with_pair s pair)
with_pair_state s pair state = record {
  some_words = state.some_words;
  few_words = state.few_words;
  some_hashes = state.some_hashes;
  few_hashes = state.few_hashes;
  within = λ p has. elim (set.contains s.set p) as (λ b. set.contains s.set p ≡ b → (b || set.contains (positions (capacity_of s) s.num_hashes pair.0 pair.1) p) ≡ true → p < capacity_of s) [
    | true ↦ λ e _. state.within p e
    | false ↦ λ _ e. positions_below (capacity_of s) s.num_hashes pair.0 pair.1 (omega (arith, state.some_words)) p e
  ] refl (sym (contains-union s.set (positions (capacity_of s) s.num_hashes pair.0 pair.1) p) ∙ has);
}

-- and with many items
pub all_inserted_state : (s : FilterState) (inputs : List (List ℕ)) → IsFilterState s → IsFilterState (all_inserted s inputs)
all_inserted_state s [] state = state
all_inserted_state s (x ∷ xs) state = all_inserted_state (inserted s x) xs (with_pair_state s (pair_of s.seed x) state)

-- what stood for a history stands for it with an item inserted
pub inserted_stands : (s : FilterState) (h : BloomHistory) (bytes : List ℕ) → StandsFor s h → StandsFor (inserted s bytes) (Insert h bytes)
inserted_stands s h bytes e = record {
  num_words = e.num_words;
  num_hashes = e.num_hashes;
  seed = e.seed;
  set = λ i. set.union (e.set i) (positions_of (64 * e.num_words i) (e.num_hashes i) (e.seed i) bytes);
}

-- and with many
pub all_inserted_stands : (s : FilterState) (h : BloomHistory) (items : List (List ℕ)) → StandsFor s h → StandsFor (all_inserted s items) (all_inserted_after h items)
all_inserted_stands s h [] e = e
all_inserted_stands s h (x ∷ xs) e = all_inserted_stands (inserted s x) (Insert h x) xs (inserted_stands s h x e)
