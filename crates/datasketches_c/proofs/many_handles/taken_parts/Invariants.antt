use Rattle.std.proofs.Common.{◌≡◌, ◌≤◌, Some, length, map, take}
use Rattle.std.specs.Option.{option_map}
use Rattle.datasketches_c.specs.ManyHandles.{found_in}
use Rattle.datasketches_c.specs.Sharing.{reads}
use Rattle.datasketches_c.proofs.many_handles.taken_parts.Given as goal

-- the sketches so far are in the list
abbrev pub invariant-each : goal.invariant-each
invariant-each g l = record {
  so_far : map (found_in (reads g.K.Kind.part)) (map (option_map (λ boxed. boxed.value)) (take l.i l.taken))
      ≡ map Some (map (λ part. part.now) l.parts.items);
  long : l.parts.len ≡ l.i;
  room : length l.taken ≤ l.parts.cap;
}
