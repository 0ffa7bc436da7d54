use Rattle.std.proofs.Common.{◌≡◌, ◌≤◌, ◌++◌, length, map, drop}
use Rattle.std.specs.Option.{option_map}
use Rattle.datasketches_c.proofs.many_handles.take_all.Given as goal

-- what was taken out, and what is in the handles from this one on
abbrev pub invariant-each : goal.invariant-each
invariant-each l = record {
  so_far : map (option_map (λ boxed. boxed.value)) l.taken.items ++ map (λ handle. handle.value) (drop l.i l.handles)
      ≡ map (λ handle. handle.value) l.fn.handles;
  long : l.taken.len ≡ l.i;
  room : length l.handles ≤ l.taken.cap;
}
