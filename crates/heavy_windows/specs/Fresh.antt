-- A window to which nothing was added.
use Rattle.std.specs.Prelude.{◌≡◌, ℕ, ◌/◌}
use Rattle.counter_table.specs.declared.table_key.TableKey.{TableKey}
use Rattle.sketch_frequencies.specs.History.{FrequentHistory, min_sample}
use Rattle.sketch_frequencies.specs.History.FrequentHistory.{New}
use Rattle.sketch_frequencies.specs.State.{FrequentState, empty_state, max_sample_size}

-- a new sketch of this maximum size under this key
abbrev pub fresh_state : {T : Type 0} → ℕ → TableKey → FrequentState T
fresh_state max_map_size key = empty_state max_map_size (max_sample_size max_map_size) key

-- the history of a new sketch
abbrev pub fresh_history : {T : Type 0} → ℕ → FrequentHistory T
fresh_history max_map_size = New max_map_size (max_sample_size max_map_size)

-- the maximum size of a set in the tail budget of windows of this maximum size: half of a purge's sample
abbrev pub window_budget : ℕ → ℕ
window_budget max_map_size = max_sample_size max_map_size / 2

-- the minimum sample size in the history is that of a window
abbrev pub SamplesAsWindow : {T : Type 0} → ℕ → FrequentHistory T → Type 0
SamplesAsWindow max_map_size h = min_sample h ≡ max_sample_size max_map_size
