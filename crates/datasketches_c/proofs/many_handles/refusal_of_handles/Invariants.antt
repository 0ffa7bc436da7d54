use Rattle.std.proofs.Common.{◌≡◌, ℤ, map, drop}
use Rattle.datasketches_c.specs.ManyHandles.{OnEachKind}
use Rattle.datasketches_c.specs.Numbers.{ok}
use Rattle.datasketches_c.specs.Sharing.{reads}
use Rattle.datasketches_c.proofs.many_handles.refusal_of_handles.Given as goal

-- the handles keep their sketches, and those so far have one of the kind
abbrev pub invariant-each : goal.invariant-each
invariant-each g l = record {
  kept : map (λ handle. handle.value) l.handles ≡ map (λ handle. handle.value) l.fn.handles;
  so_far : (z : ℤ) → OnEachKind (reads g.K.Kind.part) (drop l.i (map (λ handle. handle.value) l.fn.handles)) z (λ ss. z ≡ ok)
      → OnEachKind (reads g.K.Kind.part) (map (λ handle. handle.value) l.fn.handles) z (λ ss. z ≡ ok);
}
