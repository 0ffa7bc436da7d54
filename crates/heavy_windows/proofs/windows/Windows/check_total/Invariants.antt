use Rattle.std.proofs.Common.{◌≡◌, ◌+◌, ◌<◌, ◌^◌}
use Rattle.std.specs.VecDeque.Iter.{deque_iter_rest}
use Rattle.heavy_windows.specs.State.{windows_total}
use Rattle.heavy_windows.proofs.windows.Windows.check_total.Given as goal

-- what was added up so far, with what is left, is the whole
abbrev pub invariant-loop-window : goal.invariant-loop-window
invariant-loop-window g l =
    (goal.iterator-loop-window g).can_next l.window-iterator × (goal.iterator-loop-window g).is_finite l.window-iterator
    × (l.total + windows_total (deque_iter_rest l.window-iterator) ≡ windows_total l.self) × (l.total < 2 ^ 64)
