use Rattle.std.proofs.Common.{[], ◌∷◌, ◌++◌}
use Rattle.std.specs.VecDeque.Iter.{deque_iter_rest}
use Rattle.sketch_frequencies.specs.State.{IsState}
use Rattle.heavy_windows.proofs.Merging.{Continues}
use Rattle.heavy_windows.proofs.windows.Windows.merged.Given as goal

-- what is left of the windows was not merged in yet
abbrev pub invariant-loop-window : goal.invariant-loop-window
invariant-loop-window g l =
    (goal.iterator-loop-window g).can_next l.window-iterator × (goal.iterator-loop-window g).is_finite l.window-iterator
    × Continues g.T.PartialEq.eq l.initial.merged l.self l.merged (deque_iter_rest l.window-iterator ++ l.self-inside.newest ∷ [])
    × IsState g.T.PartialEq.eq l.merged
