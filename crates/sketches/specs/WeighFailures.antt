-- When each error of a run that prints the weights of keys comes.
use Rattle.std.specs.Prelude.{◌≡◌, ◌⊎◌, ℕ, ◌+◌, ◌*◌, ◌^◌, ◌≤◌, List, Option, Some, IfSome}
use Rattle.std.specs.declared.io.Error.{Error}
use Rattle.sketch_countmin.specs.Sizes.{IsETimesWithin}
use Rattle.sketches.specs.Inputs.{HaveLongRecord}
use Rattle.sketches.specs.Reading.{HasLongRecord}
use Rattle.sketch_text.specs.Records.{splits_by}
use Rattle.sketches.specs.KeyWeights.{IsTableFor, unweighed_line, weighed_in, weighed_line, weighed_lines}
use Rattle.sketches.specs.LineNumbers.{HaveUnweighed, IsFirstUnweighed, IsUnweighedAt, lines_of}
use Rattle.sketches.specs.Weighed.{Weighed, total_of}
use Rattle.sketches.specs.declared.failure.Failure.{Failure}
use Rattle.sketches.specs.declared.failure.Failure.TheVariants.{Memory, LineTooLong, TooManyItems, BadSize, BadWeight, Write}
use Rattle.sketches.specs.declared.item.weighing.WeighedRecord.{WeighedRecord}
use Rattle.sketches.specs.declared.weight.weigh.WeighOptions.{WeighOptions}

-- while items are added with their weights to a total, the memory is exhausted, the total would exceed `u64::MAX`, or an item has no weight.
-- `bad` holds of the number of its line
abbrev pub FailsCounting : (total : ℕ) → Weighed → (bad : ℕ → Type 0) → Failure → Type 0
FailsCounting total items bad Memory = Unit {0}
FailsCounting total items bad TooManyItems = 2 ^ 64 ≤ total + total_of items
FailsCounting total items bad (BadWeight found) = bad found.line
FailsCounting total items bad _ = ⊥

-- why the items of records are not added, which come after `count` lines of their input, and that of one record, whose first line has the
-- number `number`
abbrev pub FailsLines : WeighedRecord → (total count : ℕ) → List (List ℕ) → Failure → Type 0
FailsLines chosen total count all failure = FailsCounting total (weighed_lines chosen all) (IsFirstUnweighed (lines_of (splits_by chosen.item)) (unweighed_line chosen) count all) failure

abbrev pub FailsRecord : WeighedRecord → (total number : ℕ) → List ℕ → Failure → Type 0
FailsRecord chosen total number row failure = FailsCounting total (weighed_line chosen row) (IsUnweighedAt (unweighed_line chosen) row number) failure

-- Memory is exhausted while a table is made, or a table of this size is not allowed: for no parts, for fewer than 2 questions, with
-- 2^30 buckets or more in a row, or with 2^30 cells or more.
abbrev pub FailsTable : (parts questions : ℕ) → Failure → Type 0
FailsTable parts questions Memory = Unit {0}
FailsTable parts questions BadSize =
    (parts ≡ 0) ⊎ ((questions ≤ 1) ⊎ (((m : ℕ) → IsETimesWithin parts m → 2 ^ 30 ≤ m)
    ⊎ ((hashes buckets : ℕ) × IsTableFor parts questions hashes buckets × (2 ^ 30 ≤ hashes * buckets))))
FailsTable parts questions _ = ⊥

-- A run that prints the weights of keys ends. Memory may be exhausted at any time, or a write has failed with this error. Otherwise a record of an
-- input or of the file of keys has more bytes than the limit, the total of the inputs is at least 2^64, a record of an input with an
-- item has no weight, or a table of this size is not allowed. The error of a record without a weight has the number of its first line.
abbrev pub FailsWeigh : WeighOptions → Option (List (List ℕ)) → Option (List ℕ) → (write_error : Option Error) → Failure → Type 0
FailsWeigh options was keys write_error Memory = Unit {0}
FailsWeigh options was keys write_error LineTooLong =
    IfSome was (HaveLongRecord (splits_by options.chosen.item) (options.max_line + 1))
    ⊎ IfSome keys (HasLongRecord (splits_by options.keys_part) (options.max_line + 1))
FailsWeigh options was keys write_error TooManyItems = IfSome was (λ inputs. 2 ^ 64 ≤ total_of (weighed_in options.chosen inputs))
FailsWeigh options was keys write_error (BadWeight found) = IfSome was (λ inputs. HaveUnweighed (splits_by options.chosen.item) (unweighed_line options.chosen) inputs found.line)
FailsWeigh options was keys write_error BadSize = FailsTable options.parts options.questions BadSize
FailsWeigh options was keys write_error (Write error) = write_error ≡ Some error

-- the failure may come after lines were written
abbrev pub ComesLate : Failure → Type 0
ComesLate Memory = Unit {0}
ComesLate LineTooLong = Unit {0}
ComesLate (Write error) = Unit {0}
ComesLate _ = ⊥
