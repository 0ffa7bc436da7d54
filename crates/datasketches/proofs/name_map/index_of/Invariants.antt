use Rattle.std.proofs.Common.{◌≡◌}
use Rattle.datasketches.specs.Names.{index_of}
use Rattle.datasketches.proofs.name_map.index_of.Given as goal

-- the names so far are others
abbrev pub invariant-loop-known : goal.invariant-loop-known
invariant-loop-known l =
    (goal.iterator-loop-known).can_next l.known-iterator × (goal.iterator-loop-known).is_finite l.known-iterator
    × (index_of l.name l.known-iterator ≡ index_of l.name l.indices.entries)
