-- The limits on the number of windows and on their sizes.
use Rattle.std.specs.Prelude.{ℕ, nat_lt, ◌||◌, Option, Some, None, if◌then◌else◌}
use Rattle.sketch_base.specs.Checks.{or_else}
use Rattle.sketch_base.specs.declared.fault.Fault.{Fault}
use Rattle.sketch_base.specs.declared.fault.Fault.TheVariants.{BadWindows}
use Rattle.sketch_frequencies.specs.Sizes.{size_fault}

-- the fault of a number of windows, if any: it is from 1 to 1024
abbrev pub windows_fault : ℕ → Option Fault
windows_fault n = if nat_lt n 1 || nat_lt 1024 n then Some BadWindows else None

-- the first fault of a number of windows and their maximum size, if any
abbrev pub limits_fault : ℕ → ℕ → Option Fault
limits_fault windows max_map_size = or_else (windows_fault windows) (size_fault max_map_size)
