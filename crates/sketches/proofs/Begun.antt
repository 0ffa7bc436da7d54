-- A sink that begins with the records of an input.
use Rattle.std.proofs.Common.{◌≡◌, inl, inr, ⊎_elim, ℕ, Bool, List, [], ◌∷◌, Option, None, Some, IfSome, subst}
use Rattle.sketches.specs.Inputs.{FailsAmong, FailsBegun, FailsInputs, TakesBegun, TakesEach, TakesFirst, TakesInputs}
use Rattle.sketches.specs.Reading.{AreFirstRecords, FailsInput, HasLongRecord, IsReadOf, TakesInput}
use Rattle.sketches.specs.declared.failure.Failure.{Failure}
use Rattle.sketches.specs.declared.failure.Failure.TheVariants.{LineTooLong}
use Rattle.sketch_text.specs.declared.records.Records.{Records}

-- ---- one input

module _ {S O : Type 0} (splits : S → Records) (begins : S → S → Type 0) (takes : S × O → List ℕ → S × O → Type 0) (old begun : S) (o : O) (same : splits begun ≡ splits old) (begin : begins old begun) where
  pub begun_taken : {E : Type 0} (input : Option (List ℕ)) (fail : Bool) (failure : Option E) (new : S × O) → TakesInput (splits begun) takes input fail failure (begun, o) new → TakesInput (splits old) (TakesBegun begins takes) input fail failure (old, o) new
  begun_taken None fail failure new taken = tt
  begun_taken (Some bytes) fail failure new (is, (read, of, taken)) = (is, (read, subst (λ (f : Records). IsReadOf f fail bytes read) same of, (begun, begin, taken)))

  pub begun_fits : (limit : ℕ) (input : Option (List ℕ)) → IfSome input (λ bytes. HasLongRecord (splits begun) limit bytes → ⊥) → IfSome input (λ bytes. HasLongRecord (splits old) limit bytes → ⊥)
  begun_fits limit None fits = tt
  begun_fits limit (Some bytes) fits = subst (λ (f : Records). HasLongRecord f limit bytes → ⊥) same fits

  first : (input : Option (List ℕ)) (new : S × O) → IfSome input (λ bytes. (read : List ℕ) × AreFirstRecords (splits begun) bytes read × takes (begun, o) read new)
      → IfSome input (λ bytes. (read : List ℕ) × AreFirstRecords (splits old) bytes read × TakesBegun begins takes (old, o) read new)
  first None new f = tt
  first (Some bytes) new (read, front, taken) = (read, subst (λ (f : Records). AreFirstRecords f bytes read) same front, (begun, begin, taken))

  module _ (fails : S × O → List ℕ → S × O → Failure → Type 0) where
    known : (input : Option (List ℕ)) (new : S × O) (e : Failure) → IfSome input (λ bytes. fails (begun, o) bytes new e) → IfSome input (λ bytes. FailsBegun begins fails (old, o) bytes new e)
    known None new e f = tt
    known (Some bytes) new e f = (begun, begin, f)

    pub begun_failed : (limit : ℕ) (input : Option (List ℕ)) (new : S × O) (e : Failure) → FailsInput (splits begun) takes fails fails limit input (begun, o) new e
        → FailsInput (splits old) (TakesBegun begins takes) fails (FailsBegun begins fails) limit input (old, o) new e
    begun_failed limit input new e failed = ⊎_elim
        (λ stops. inl (
          ⊎_elim (λ memory. inl memory) (λ long. inr (subst (λ (f : Records). (e ≡ LineTooLong) × IfSome input (HasLongRecord f limit)) same long)) stops.0,
          first input new stops.1,
        ))
        (λ f. inr (record { some = f.some; known = known input new e f.known }))
        failed

-- ---- inputs, of which each leaves the sink unchanged when it begins

-- the sink does not change
abbrev pub Unchanged : {S : Type 0} → S → S → Type 0
Unchanged old new = new ≡ old

module _ {S O : Type 0} (takes : S × O → List ℕ → S × O → Type 0) where
  each_taken : (old new : S × O) (lists : List (List ℕ)) → TakesEach (TakesBegun Unchanged takes) old lists new → TakesEach takes old lists new
  each_taken old new [] same = same
  each_taken old new (bytes ∷ lists) (mid, (begun, is, taken), rest) = (mid, subst (λ (b : S). takes (b, old.1) bytes mid) is taken, each_taken mid new lists rest)

  pub unchanged_taken : (records : Records) (was : Option (List (List ℕ))) (fails : List Bool) (complete : Bool) (old new : S × O) → TakesInputs records (TakesBegun Unchanged takes) was fails complete old new → TakesInputs records takes was fails complete old new
  unchanged_taken records None fails complete old new taken = tt
  unchanged_taken records (Some inputs) fails complete old new (is, (read, are, each)) = (is, (read, are, each_taken old new read each))

  module _ (fails : S × O → List ℕ → S × O → Failure → Type 0) (records : Records) where
    first_taken : (was : Option (List (List ℕ))) (old new : S × O) → IfSome was (λ inputs. TakesFirst records (TakesBegun Unchanged takes) inputs old new) → IfSome was (λ inputs. TakesFirst records takes inputs old new)
    first_taken None old new f = tt
    first_taken (Some inputs) old new f = record { first = f.first; later = f.later; parts = f.parts; read = f.read; fronts = f.fronts; taken = each_taken old new f.read f.taken }

    among_failed : (was : Option (List (List ℕ))) (old new : S × O) (e : Failure) → IfSome was (λ inputs. FailsAmong records (TakesBegun Unchanged takes) (FailsBegun Unchanged fails) inputs old new e) → IfSome was (λ inputs. FailsAmong records takes fails inputs old new e)
    among_failed None old new e f = tt
    among_failed (Some inputs) old new e f =
        let (begun, is, failing) = f.reason in
        record {
          earlier = f.earlier;
          input = f.input;
          later = f.later;
          parts = f.parts;
          read = f.read;
          fronts = f.fronts;
          mid = f.mid;
          taken = each_taken old f.mid f.read f.taken;
          reason = subst (λ (b : S). fails (b, f.mid.1) f.input new e) is failing;
        }

    pub unchanged_failed : (limit : ℕ) (was : Option (List (List ℕ))) (old new : S × O) (e : Failure) → FailsInputs records (TakesBegun Unchanged takes) fails (FailsBegun Unchanged fails) limit was old new e → FailsInputs records takes fails fails limit was old new e
    unchanged_failed limit was old new e failed = ⊎_elim
        (λ stops. inl (stops.0, first_taken was old new stops.1))
        (λ f. inr (record { some = f.some; known = among_failed was old new e f.known }))
        failed
