-- When each error of a run that joins records with keys comes.
use Rattle.std.specs.Prelude.{◌≡◌, ◌+◌, ◌^◌, ◌≤◌, ℕ, Bool, true, List, length, Option, IfSome}
use Rattle.std.specs.declared.io.Error.{Error}
use Rattle.sketches.specs.Failures.{FailsFilter, FailsWrittenLines}
use Rattle.sketches.specs.Reading.{HasLongRecord}
use Rattle.sketches.specs.RecordParts.{raws_by}
use Rattle.sketch_text.specs.Records.{splits_by}
use Rattle.sketches.specs.declared.failure.Failure.{Failure}
use Rattle.sketches.specs.declared.failure.Failure.TheVariants.{Memory, LineTooLong, TooManyItems, BadSize}
use Rattle.sketches.specs.declared.filter.join.JoinFailure.{JoinFailure}
use Rattle.sketches.specs.declared.filter.join.JoinFailure.TheVariants.{Unread, Keys, Lines}
use Rattle.sketches.specs.declared.filter.join.JoinOptions.{JoinOptions}
use Rattle.sketch_text.specs.declared.record_part.RecordPart.{RecordPart}

-- while keys are inserted, memory is exhausted, or a record of the keys has at least `limit` bytes
abbrev pub FailsKeyLines : RecordPart → (limit : ℕ) → Option (List ℕ) → Failure → Type 0
FailsKeyLines part limit keys Memory = Unit {0}
FailsKeyLines part limit keys LineTooLong = IfSome keys (HasLongRecord (splits_by part) limit)
FailsKeyLines part limit keys _ = ⊥

-- a read fails after the bytes of the keys, or a failure comes while they are inserted
abbrev pub FailsInsertion : RecordPart → (limit : ℕ) → Option (List ℕ) → (fails : Bool) → JoinFailure → Type 0
FailsInsertion part limit keys fails (Unread error) = IfSome keys (λ _. fails ≡ true)
FailsInsertion part limit keys fails (Keys failure) = FailsKeyLines part limit keys failure
FailsInsertion part limit keys fails (Lines failure) = ⊥

-- Before records are written, memory may be exhausted. Otherwise a record of the keys has more bytes than the limit, or a filter of this
-- size is not allowed.
abbrev pub FailsKeys : JoinOptions → Option (List ℕ) → Failure → Type 0
FailsKeys options keys BadSize = FailsFilter options.size BadSize
FailsKeys options keys failure = FailsKeyLines options.keys_part (options.max_line + 1) keys failure

-- a read fails after the bytes of the keys; or a failure comes while keys are inserted, or while records are written
abbrev pub FailsJoin : JoinOptions → Option (List ℕ) → (keys_fail : Bool) → Option (List (List ℕ)) → (write_error : Option Error) → JoinFailure → Type 0
FailsJoin options keys keys_fail was write_error (Unread error) = IfSome keys (λ _. keys_fail ≡ true)
FailsJoin options keys keys_fail was write_error (Keys failure) = FailsKeys options keys failure
FailsJoin options keys keys_fail was write_error (Lines failure) = FailsWrittenLines options.part (options.max_line + 1) was write_error failure

-- the file of keys could not be read whole, or a failure came while its keys were inserted
abbrev pub IsOfKeys : JoinFailure → Type 0
IsOfKeys (Lines failure) = ⊥
IsOfKeys _ = Unit {0}

-- While the records of the keys are counted, a read fails after their bytes, or memory may be exhausted. Otherwise a record has at least `limit`
-- bytes, or there are 2^64 records or more.
abbrev pub FailsCount : RecordPart → (limit : ℕ) → Option (List ℕ) → (fails : Bool) → JoinFailure → Type 0
FailsCount part limit keys fails (Keys TooManyItems) = IfSome keys (λ bytes. 2 ^ 64 ≤ length (raws_by part bytes))
FailsCount part limit keys fails failure = FailsInsertion part limit keys fails failure
