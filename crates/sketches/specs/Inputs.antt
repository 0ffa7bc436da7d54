-- What is taken of inputs that are opened one after another.
use Rattle.std.specs.Prelude.{◌≡◌, ◌⊎◌, ℕ, Bool, not, List, [], ◌∷◌, ◌++◌, Option, Some, IfSome, MatchOption}
use Rattle.std.specs.List.{AllZip, list_any}
use Rattle.sketches.specs.Reading.{AreFirstRecords, HasLongRecord, IsReadOf}
use Rattle.sketches.specs.declared.failure.Failure.{Failure}
use Rattle.sketches.specs.declared.failure.Failure.TheVariants.{Memory, LineTooLong}
use Rattle.sketch_text.specs.declared.records.Records.{Records}

-- the next input was opened, and is left no more; or none is left
abbrev pub OpensNext : {R : Type 0} → (R → Option (List ℕ)) → (R → Bool) → Option (List (List ℕ)) → Option (List (List ℕ)) → List Bool → List Bool → Option R → Type 0
OpensNext remaining fails_after was is fails fails' next = IfSome was (λ inputs. MatchOption next ((inputs ≡ []) × (fails ≡ [])) (λ reader.
    (bytes : List ℕ) × (later : List (List ℕ)) × (inputs ≡ bytes ∷ later) × (remaining reader ≡ Some bytes) × (is ≡ Some later)
    × (fails ≡ fails_after reader ∷ fails')))

-- what was read of each input, given whether a read fails after its bytes: all of it, or the records that end before the failure
abbrev pub AreRead : Records → (fails : List Bool) → (inputs read : List (List ℕ)) → Type 0
AreRead records [] [] [] = Unit {0}
AreRead records (fail ∷ fails) (bytes ∷ inputs) (taken ∷ read) = IsReadOf records fail bytes taken × AreRead records fails inputs read
AreRead records _ _ _ = ⊥

-- whether no read fails
abbrev pub none_fails : List Bool → Bool
none_fails fails = not (list_any (λ fail. fail) fails)

-- one of the inputs has a record of at least `limit` bytes
pub record HaveLongRecord (records : Records) (limit : ℕ) (inputs : List (List ℕ)) : Type 0 where
  pub earlier : List (List ℕ)
  pub input : List ℕ
  pub later : List (List ℕ)
  pub parts : inputs ≡ earlier ++ input ∷ later
  pub long : HasLongRecord records limit input

-- `begins old new`: a sink begins with the records of an input
module _ {S O : Type 0} (begins : S → S → Type 0) where
  -- the records of an input were taken by a sink that began with it
  abbrev pub TakesBegun : (takes : S × O → List ℕ → S × O → Type 0) → S × O → List ℕ → S × O → Type 0
  TakesBegun takes old bytes new = (begun : S) × begins old.0 begun × takes (begun, old.1) bytes new

  -- the failure may come while they are taken
  abbrev pub FailsBegun : (fails : S × O → List ℕ → S × O → Failure → Type 0) → S × O → List ℕ → S × O → Failure → Type 0
  FailsBegun fails old bytes new failure = (begun : S) × begins old.0 begun × fails (begun, old.1) bytes new failure

module _ {S : Type 0} (takes : S → List ℕ → S → Type 0) where
  -- the records of each list were taken, in order
  abbrev pub TakesEach : S → List (List ℕ) → S → Type 0
  TakesEach old [] new = new ≡ old
  TakesEach old (bytes ∷ later) new = (mid : S) × takes old bytes mid × TakesEach mid later new

module _ (records : Records) {S : Type 0} (takes : S → List ℕ → S → Type 0) where
  -- the records of what was read of each input were taken
  abbrev pub TakesInputs : Option (List (List ℕ)) → (fails : List Bool) → (complete : Bool) → (old new : S) → Type 0
  TakesInputs was fails complete old new = IfSome was (λ inputs. (complete ≡ none_fails fails)
      × ((read : List (List ℕ)) × AreRead records fails inputs read × TakesEach takes old read new))

  -- the first records of the first of these inputs were taken
  pub record TakesFirst (inputs : List (List ℕ)) (old new : S) : Type 0 where
    pub first : List (List ℕ)
    pub later : List (List ℕ)
    pub parts : inputs ≡ first ++ later
    pub read : List (List ℕ)
    pub fronts : AllZip (AreFirstRecords records) first read
    pub taken : TakesEach takes old read new

  -- no memory, or a record of at least `limit` bytes, after the first records of inputs were taken
  abbrev pub StopsInputs : ℕ → Option (List (List ℕ)) → (old new : S) → Failure → Type 0
  StopsInputs limit was old new failure =
      ((failure ≡ Memory) ⊎ ((failure ≡ LineTooLong) × IfSome was (HaveLongRecord records limit)))
      × IfSome was (λ inputs. TakesFirst inputs old new)

  module _ (fails : S → List ℕ → S → Failure → Type 0) where
    -- the failure may come while the records of an input are taken, after those of what was read of the inputs before
    pub record FailsAmong (inputs : List (List ℕ)) (old new : S) (failure : Failure) : Type 0 where
      pub earlier : List (List ℕ)
      pub input : List ℕ
      pub later : List (List ℕ)
      pub parts : inputs ≡ earlier ++ input ∷ later
      pub read : List (List ℕ)
      pub fronts : AllZip (AreFirstRecords records) earlier read
      pub mid : S
      pub taken : TakesEach takes old read mid
      pub reason : fails mid input new failure

  -- the same of records of any input (`may`), and of whole inputs
  module _ (may fails : S → List ℕ → S → Failure → Type 0) where
    -- the failure may come while records are taken, and while those of these inputs are, if they are known
    pub record FailsTakingInputs (was : Option (List (List ℕ))) (old new : S) (failure : Failure) : Type 0 where
      pub some : (s : S) × (bytes : List ℕ) × may s bytes new failure
      pub known : IfSome was (λ inputs. FailsAmong fails inputs old new failure)

    -- no memory, a record of at least `limit` bytes, or a failure while records are taken
    abbrev pub FailsInputs : ℕ → Option (List (List ℕ)) → (old new : S) → Failure → Type 0
    FailsInputs limit was old new failure = StopsInputs limit was old new failure ⊎ FailsTakingInputs was old new failure
