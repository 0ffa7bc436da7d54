use Rattle.std.proofs.Common.{◌≡◌, ◌++◌, string_bytes, take}
use Rattle.std.specs.List.{flat_map}
use Rattle.any_sketch.specs.Numbers.{number_of}
use Rattle.sketches.specs.Shown.{number_line}
use Rattle.sketches.proofs.image.show.write_numbers.Given as goal

abbrev pub invariant-loop-name : goal.invariant-loop-name
invariant-loop-name l = string_bytes l.out ≡ string_bytes l.initial.out ++ flat_map (λ named. number_line named.0.now (number_of l.sketch named.1)) (take l.name-index l.names)
