-- Which maximum sizes a sketch may have, and how many counters its purges may sample.
use Rattle.std.specs.Prelude.{ℕ, ◌%◌, ◌^◌, ◌==◌, ◌&&◌, nat_lt, nat_le, not, Option, Some, None, if◌then◌else◌}
use Rattle.std.specs.Int.{is_power_of_two}
use Rattle.sketch_base.specs.Checks.{or_else}
use Rattle.sketch_base.specs.declared.fault.Fault.{Fault}
use Rattle.sketch_base.specs.declared.fault.Fault.TheVariants.{MapSizeNotPowerOfTwo, MapSizeTooSmall, MapSizeTooLarge, BadSampleSize}
use Rattle.sketch_frequencies.specs.State.{max_sample_size}

-- the fault of a maximum size, if any: it has to be a power of two from 8 to 2 ^ 30
abbrev pub size_fault : ℕ → Option Fault
size_fault n =
    if not (is_power_of_two n) then Some MapSizeNotPowerOfTwo
    else (if nat_lt n 8 then Some MapSizeTooSmall
    else (if nat_lt (2 ^ 30) n then Some MapSizeTooLarge else None))

-- the fault of a sample size, if any: it has to be even, and from 2 to the maximum for this maximum size
abbrev pub sample_fault : (max_size n : ℕ) → Option Fault
sample_fault max_size n =
    if nat_le 2 n && (n % 2 == 0) && nat_le n (max_sample_size max_size) then None else Some BadSampleSize

-- the fault of both, that of the maximum size first
abbrev pub sizes_fault : (max_size n : ℕ) → Option Fault
sizes_fault max_size n = or_else (size_fault max_size) (sample_fault max_size n)
