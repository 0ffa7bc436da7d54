use Rattle.std.proofs.Common.{◌≡◌, ◌≤◌, ◌++◌, length, map, drop}
use Rattle.std.specs.Option.{option_map}
use Rattle.datasketches_c.proofs.many_handles.give_all.Given as goal

-- what is left to be given back, and what is in the handles from there on
abbrev pub invariant-each : goal.invariant-each
invariant-each l = record {
  so_far : map (option_map (λ boxed. boxed.value)) l.taken.items ++ map (λ handle. handle.value) (drop l.taken.len l.handles)
      ≡ map (option_map (λ boxed. boxed.value)) l.fn.taken.items;
  room : l.taken.len ≤ length l.handles;
}

abbrev pub decreases-each : goal.decreases-each
decreases-each l = goal.left-each l
