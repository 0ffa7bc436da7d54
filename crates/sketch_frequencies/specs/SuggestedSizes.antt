-- The tail budget of a maximum size.
use Rattle.std.specs.Prelude.{ℕ, ◌/◌}
use Rattle.sketch_frequencies.specs.State.{max_sample_size}

-- how many items the tail budget may set aside if `new` created all sketches, with this maximum size or a larger one
abbrev pub usual_budget : ℕ → ℕ
usual_budget max_size = max_sample_size max_size / 2
