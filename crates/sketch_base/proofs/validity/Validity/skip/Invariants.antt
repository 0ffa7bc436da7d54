use Rattle.std.proofs.Common.{◌≡◌, drop}
use Rattle.sketch_base.proofs.validity.Validity.skip.Given as goal

-- as many bits were left out as were counted
abbrev pub invariant-each : goal.invariant-each
invariant-each l = l.self ≡ drop l.counter l.fn.self
