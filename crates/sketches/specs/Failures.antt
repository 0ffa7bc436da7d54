-- When each error of a run comes.
use Rattle.std.specs.Prelude.{◌≡◌, ◌⊎◌, ◌<◌, ◌*◌, ℕ, ◌+◌, ◌^◌, ◌≤◌, List, length, Option, Some, IfSome, IsSome}
use Rattle.std.specs.List.{flat_map}
use Rattle.std.specs.declared.io.Error.{Error}
use Rattle.sketch_bloom.specs.Sizes.{AreEnoughBitsRounded, IsLn2TimesWithin}
use Rattle.sketch_frequencies.specs.Sizes.{size_fault}
use Rattle.sketches.specs.Added.{Sketch}
use Rattle.sketches.specs.Inputs.{HaveLongRecord}
use Rattle.sketch_text.specs.Records.{splits_by}
use Rattle.sketches.specs.LineNumbers.{HaveUnweighed, IsFirstUnweighed, IsUnweighedAt, lines_counted}
use Rattle.sketches.specs.Weighed.{Weighed, records_of, splits_of, total_of, unweighed_of_line, weighed_of, weighed_of_line}
use Rattle.sketches.specs.declared.failure.Failure.{Failure}
use Rattle.sketches.specs.declared.failure.Failure.TheVariants.{Memory, LineTooLong, TooManyItems, BadSize, BadWeight, Write}
use Rattle.sketches.specs.declared.filter.filter_size.FilterSize.{FilterSize}
use Rattle.sketches.specs.declared.filter.filter_size.FilterSize.TheVariants.{Target, Shape}
use Rattle.sketches.specs.FilterSizes.{HasNoSize}
use Rattle.sketch_text.specs.declared.record_part.RecordPart.{RecordPart}
use Rattle.sketches.specs.declared.count.top.Options.{Options}
use Rattle.sketches.specs.declared.filter.uniq.UniqOptions.{UniqOptions}
use Rattle.sketches.specs.declared.item.weighing.Weighing.{Weighing}

-- the output could not be written
abbrev pub IsOfOutput : Failure → Type 0
IsOfOutput (Write error) = Unit {0}
IsOfOutput _ = ⊥

-- the failure may come after the sketch of a run was kept
abbrev pub ComesAfterKeeping : Failure → Type 0
ComesAfterKeeping Memory = Unit {0}
ComesAfterKeeping (Write error) = Unit {0}
ComesAfterKeeping _ = ⊥

-- while strings are added to a sketch, the memory is exhausted, or the total would exceed `u64::MAX`
abbrev pub FailsAdding : Sketch → List (List ℕ) → Failure → Type 0
FailsAdding old strings Memory = Unit {0}
FailsAdding old strings TooManyItems = 2 ^ 64 ≤ old.total + length strings
FailsAdding old strings _ = ⊥

-- while items are added with their weights, the memory is exhausted, the total would exceed `u64::MAX`, or an item has no weight. `bad` holds
-- of the number of its line
abbrev pub FailsWeighing : Sketch → Weighed → (bad : ℕ → Type 0) → Failure → Type 0
FailsWeighing old pairs bad Memory = Unit {0}
FailsWeighing old pairs bad TooManyItems = 2 ^ 64 ≤ old.total + total_of pairs
FailsWeighing old pairs bad (BadWeight found) = bad found.line
FailsWeighing old pairs bad _ = ⊥

-- the memory is exhausted, or an item has no weight, and its line has this number
abbrev pub IsBadWeight : (number : ℕ) → Failure → Type 0
IsBadWeight number Memory = Unit {0}
IsBadWeight number (BadWeight found) = found.line ≡ number
IsBadWeight number _ = ⊥

-- why the items of lines are not added, which come after `count` lines of their input, and those of one line, which has the number `number`
abbrev pub FailsLines : Weighing → Sketch → (count : ℕ) → List ℕ → Failure → Type 0
FailsLines chosen old count bytes failure = FailsWeighing old (weighed_of chosen bytes) (IsFirstUnweighed (lines_counted chosen) (unweighed_of_line chosen) count (records_of chosen bytes)) failure

abbrev pub FailsLine : Weighing → Sketch → (number : ℕ) → List ℕ → Failure → Type 0
FailsLine chosen old number line failure = FailsWeighing old (weighed_of_line chosen line) (IsUnweighedAt (unweighed_of_line chosen) line number) failure

-- A report is not written, or not whole. Memory may be exhausted at any time. `output` holds of the error of the output.
-- Otherwise a line has more bytes than the limit, the weights of all items are at least 2^64, a line with an item has no weight, or the size is not allowed.
-- The error of a line without a weight has the number of this line.
abbrev pub FailsTop : Options → Option (List (List ℕ)) → (output : Error → Type 0) → Failure → Type 0
FailsTop options was output Memory = Unit {0}
FailsTop options was output LineTooLong = IfSome was (HaveLongRecord (splits_of options.weighing) (options.max_line + 1))
FailsTop options was output TooManyItems = IfSome was (λ inputs. 2 ^ 64 ≤ total_of (flat_map (weighed_of options.weighing) inputs))
FailsTop options was output (BadWeight found) = IfSome was (λ inputs. HaveUnweighed (splits_of options.weighing) (unweighed_of_line options.weighing) inputs found.line)
FailsTop options was output BadSize = IsSome (size_fault options.size)
FailsTop options was output (Write error) = output error

-- while records are written, the memory is exhausted, or a write has failed with this error
abbrev pub FailsWriting : (write_error : Option Error) → Failure → Type 0
FailsWriting write_error Memory = Unit {0}
FailsWriting write_error (Write error) = write_error ≡ Some error
FailsWriting write_error _ = ⊥

-- Memory is exhausted while a filter is made, or a filter of this size is not allowed: for no items, for fewer than 2 questions,
-- without bits or hashes, with more than 137438953152 bits, or with more than 32767 hashes.
abbrev pub FailsFilter : FilterSize → Failure → Type 0
FailsFilter size Memory = Unit {0}
FailsFilter (Target target) BadSize =
    (target.items ≡ 0) ⊎ ((target.questions ≤ 1)
    ⊎ (((bits : ℕ) → AreEnoughBitsRounded target.items target.questions bits → 137438953152 < bits)
    ⊎ ((bits : ℕ) × AreEnoughBitsRounded target.items target.questions bits
    × ((hashes : ℕ) → IsLn2TimesWithin bits (hashes * target.items) → 32767 < hashes))))
FailsFilter (Shape shape) BadSize = HasNoSize (Shape shape)
FailsFilter size _ = ⊥

-- The records of inputs are not all written. Memory may be exhausted at any time, or a write has failed with this error. Otherwise a record has at
-- least `limit` bytes.
abbrev pub FailsWrittenLines : RecordPart → (limit : ℕ) → Option (List (List ℕ)) → (write_error : Option Error) → Failure → Type 0
FailsWrittenLines part limit was write_error Memory = Unit {0}
FailsWrittenLines part limit was write_error LineTooLong = IfSome was (HaveLongRecord (splits_by part) limit)
FailsWrittenLines part limit was write_error TooManyItems = ⊥
FailsWrittenLines part limit was write_error BadSize = ⊥
FailsWrittenLines part limit was write_error (BadWeight found) = ⊥
FailsWrittenLines part limit was write_error (Write error) = write_error ≡ Some error

-- a run that writes unseen records ends as any that writes records, or a filter of this size is not allowed
abbrev pub FailsUniq : UniqOptions → FilterSize → Option (List (List ℕ)) → (write_error : Option Error) → Failure → Type 0
FailsUniq options size was write_error BadSize = FailsFilter size BadSize
FailsUniq options size was write_error failure = FailsWrittenLines options.part (options.max_line + 1) was write_error failure
