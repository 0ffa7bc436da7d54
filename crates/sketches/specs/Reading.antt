-- What is taken of the bytes of an input, record by record.
use Rattle.std.specs.Prelude.{◌≡◌, ℕ, ◌+◌, ◌-◌, ◌<◌, ◌≤◌, ◌⊎◌, Bool, true, false, List, [], ◌++◌, length, take, drop, slice_index, All, Option, is_some, IfSome, MatchOption, Result, MatchResult}
use Rattle.std.specs.Io.KnownBytes.{Consumes, Keeps}
use Rattle.sketch_base.specs.Split.{IsBehindLast, separates}
use Rattle.sketch_base.specs.declared.separator.Separator.TheVariants.{LineFeed}
use Rattle.sketch_text.specs.Csv.{EndsRecord, IsBehindLastEnd, IsInOneRecord, place_after}
use Rattle.sketch_text.specs.declared.place.Place.{Place}
use Rattle.sketch_text.specs.declared.place.Place.TheVariants.{Start}
use Rattle.sketches.specs.declared.failure.Failure.{Failure}
use Rattle.sketches.specs.declared.failure.Failure.TheVariants.{Memory, LineTooLong}
use Rattle.sketch_text.specs.declared.records.Records.{Records}
use Rattle.sketch_text.specs.declared.records.Records.TheVariants.{Lines, Csv}

-- these bytes are whole lines: none, or the last is a line feed
abbrev pub AreWholeLines : List ℕ → Type 0
AreWholeLines bytes = 0 < length bytes → slice_index bytes (length bytes - 1) ≡ 10

-- these bytes are whole records: whole lines, or for CSV none, or the last of them ends a record
abbrev pub AreWholeRecords : Records → List ℕ → Type 0
AreWholeRecords Lines bytes = AreWholeLines bytes
AreWholeRecords (Csv delimiter) bytes = 0 < length bytes → EndsRecord delimiter Start bytes

-- these bytes are the first records of an input: all of it, or whole records
abbrev pub AreFirstRecords : Records → List ℕ → List ℕ → Type 0
AreFirstRecords records bytes read = (rest : List ℕ) × (bytes ≡ read ++ rest) × (0 < length rest → AreWholeRecords records read)

-- all known bytes were read. After them a read fails, or the input ends
abbrev pub StopsAfter : Option (List ℕ) → (fails is : Bool) → Type 0
StopsAfter known fails is = IfSome known (λ left. (left ≡ []) × (fails ≡ is))

-- none of these bytes is a line feed
abbrev pub IsInOneLine : List ℕ → Type 0
IsInOneLine bytes = All (λ byte. separates LineFeed byte ≡ false) bytes

-- none of these bytes, from this place in a field on, ends a record
abbrev pub IsInOne : Records → Place → List ℕ → Type 0
IsInOne Lines place bytes = IsInOneLine bytes
IsInOne (Csv delimiter) place bytes = IsInOneRecord delimiter place bytes

-- the place in a field after bytes, which matters for CSV
abbrev pub place_of : Records → Place → List ℕ → Place
place_of Lines place bytes = Start
place_of (Csv delimiter) place bytes = place_after delimiter place bytes

-- the index is behind the last end of a record among bytes that begin at this place, or it is 0 and there is none
abbrev pub IsBehindEnd : Records → Place → List ℕ → ℕ → Type 0
IsBehindEnd Lines place bytes at = IsBehindLast (separates LineFeed) bytes at
IsBehindEnd (Csv delimiter) place bytes at = IsBehindLastEnd delimiter place bytes at

-- after whole records, a record has at least `limit` bytes before its line feed or the end
abbrev pub HasLongRecord : Records → ℕ → List ℕ → Type 0
HasLongRecord records limit bytes =
    (before line after : List ℕ) × (bytes ≡ before ++ (line ++ after)) × AreWholeRecords records before × (limit ≤ length line)
    × IsInOne records Start line

-- a read put bytes after the first `held` ones of the buffer, was interrupted, or failed. If it put none, the input is at its end
abbrev pub Fills : {E : Type 0} → Option (List ℕ) → Option (List ℕ) → (fails : Bool) → ℕ → List ℕ → List ℕ → Result (Option ℕ) E → Type 0
Fills was is fails held old new result =
    (length new ≡ length old) × (take held new ≡ take held old)
    × MatchResult result (λ found. MatchOption found (Keeps was is) (λ count. (held + count ≤ length new)
    × Consumes was is (take count (drop held new)) × (count ≡ 0 → StopsAfter is fails false)))
    (λ _. Keeps was is × StopsAfter is fails true)

-- what is taken of an input: all of it, or, if a read fails after these bytes, the records that end among them
abbrev pub IsReadOf : Records → (fails : Bool) → (bytes read : List ℕ) → Type 0
IsReadOf records false bytes read = read ≡ bytes
IsReadOf records true bytes read =
    (cut : List ℕ) × (bytes ≡ read ++ cut) × AreWholeRecords records read × IsInOne records Start cut

-- `takes old bytes new`: the bytes of records were taken between two states
module _ (records : Records) {S : Type 0} (takes : S → List ℕ → S → Type 0) where
  -- the records of an input were taken. There is an error if a read fails after its bytes, and only then
  abbrev pub TakesInput : {E : Type 0} → Option (List ℕ) → (fails : Bool) → Option E → (old new : S) → Type 0
  TakesInput input fails failure old new =
      IfSome input (λ bytes. (is_some failure ≡ fails) × ((read : List ℕ) × IsReadOf records fails bytes read × takes old read new))

  -- whole records of these bytes were taken, and the bytes after them, which are in one record, are at the front of the buffer
  pub record TakesRecords (old new : S) (bytes buffer : List ℕ) (kept : ℕ) (place : Place) : Type 0 where
    pub within : kept ≤ length buffer
    pub taken : List ℕ
    pub parts : bytes ≡ taken ++ take kept buffer
    pub whole : AreWholeRecords records taken
    pub change : takes old taken new
    pub rest : IsInOne records Start (take kept buffer)
    pub place_is : place ≡ place_of records Start (take kept buffer)

-- `fails old bytes new failure`: the failure may come while the bytes of records are taken, and leaves the state `new`
module _ (records : Records) {S : Type 0} (fails : S → List ℕ → S → Failure → Type 0) where
  -- the failure may come while the first of these bytes are taken, which are whole records
  pub record FailsWithin (old : S) (bytes : List ℕ) (new : S) (failure : Failure) : Type 0 where
    pub taken : List ℕ
    pub rest : List ℕ
    pub parts : bytes ≡ taken ++ rest
    pub whole : AreWholeRecords records taken
    pub reason : fails old taken new failure

-- the same of records of any input (`may`), and of a whole input
module _ {S : Type 0} (may fails : S → List ℕ → S → Failure → Type 0) where
  -- the failure may come while records are taken, and while those of this input are, if it is known
  pub record FailsTaking (input : Option (List ℕ)) (old new : S) (failure : Failure) : Type 0 where
    pub some : (s : S) × (bytes : List ℕ) × may s bytes new failure
    pub known : IfSome input (λ bytes. fails old bytes new failure)

module _ (records : Records) {S : Type 0} (takes : S → List ℕ → S → Type 0) where
  -- no memory, or a record of at least `limit` bytes. The first records of the input were taken before
  abbrev pub StopsInput : ℕ → Option (List ℕ) → (old new : S) → Failure → Type 0
  StopsInput limit input old new failure =
      ((failure ≡ Memory) ⊎ ((failure ≡ LineTooLong) × IfSome input (HasLongRecord records limit)))
      × IfSome input (λ bytes. (read : List ℕ) × AreFirstRecords records bytes read × takes old read new)

  -- this, or a failure while records are taken
  abbrev pub FailsInput : (may fails : S → List ℕ → S → Failure → Type 0) → ℕ → Option (List ℕ) → (old new : S) → Failure → Type 0
  FailsInput may fails limit input old new failure = StopsInput limit input old new failure ⊎ FailsTaking may fails input old new failure
