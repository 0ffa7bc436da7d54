-- Which rows are printed.
use Rattle.std.specs.Prelude.{ℕ, ◌*◌, ◌^◌, ◌<◌}
use Rattle.sketches.specs.declared.print.threshold.Threshold.{Threshold}
use Rattle.sketches.specs.declared.print.threshold.Threshold.TheVariants as threshold

-- A number is above the threshold: above a weight, or above a percentage of the total. A percentage is in millionths, of which 100
-- percent have 10^8.
abbrev pub IsAbove : Threshold → (total number : ℕ) → Type 0
IsAbove (threshold.Weight weight) total number = weight < number
IsAbove (threshold.Share percent) total number = percent.millionths * total < 10 ^ 8 * number
