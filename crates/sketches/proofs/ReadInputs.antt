-- Inputs that are read one after another.
use Rattle.std.proofs.Common.{◌≡◌, inl, inr, ⊎_elim, ℕ, ◌&&◌, Bool, true, false, not, List, [], ◌∷◌, ◌++◌, Option, None, Some, IfSome, append_assoc, append-nil, refl, sym, ◌∙◌, ap, subst, arith}
use Rattle.std.specs.List.{AllByRecursion, AllZip}
use Rattle.std.specs.Option.{is_some}
use Rattle.sketch_frequencies.proofs.KeyedBatches.{all_zip_push}
use Rattle.sketches.specs.Reading.{AreFirstRecords, FailsInput, HasLongRecord, IsReadOf, TakesInput}
use Rattle.sketches.specs.Inputs.{AreRead, FailsAmong, FailsInputs, HaveLongRecord, OpensNext, TakesEach, TakesFirst, TakesInputs, none_fails}
use Rattle.sketches.specs.declared.failure.Failure.{Failure}
use Rattle.sketch_text.specs.declared.records.Records.{Records}
use Rattle.sketches.proofs.LongRecords.{Fits}

-- what was read of one more input
are_more : (records : Records) (fails : List Bool) (fail : Bool) (done read : List (List ℕ)) (bytes got : List ℕ) → AreRead records fails done read → IsReadOf records fail bytes got → AreRead records (fails ++ fail ∷ []) (done ++ bytes ∷ []) (read ++ got ∷ [])
are_more records [] fail [] [] bytes got are one = (one, tt)
are_more records [] fail [] (r ∷ read) bytes got are one = absurd are
are_more records [] fail (d ∷ done) read bytes got are one = absurd are
are_more records (f ∷ fails) fail [] read bytes got are one = absurd are
are_more records (f ∷ fails) fail (d ∷ done) [] bytes got are one = absurd are
are_more records (f ∷ fails) fail (d ∷ done) (r ∷ read) bytes got are one = (are.0, are_more records fails fail done read bytes got are.1 one)

-- whether no read fails, with one more input
none_more : (fails : List Bool) (fail : Bool) → none_fails (fails ++ fail ∷ []) ≡ (none_fails fails && not fail)
none_more [] true = refl
none_more [] false = refl
none_more (true ∷ fails) fail = refl
none_more (false ∷ fails) fail = none_more fails fail

-- they are first records
first_of : (records : Records) (fail : Bool) (bytes got : List ℕ) → IsReadOf records fail bytes got → AreFirstRecords records bytes got
first_of records false bytes got same = ([], sym (append-nil bytes) ∙ ap (λ l. l ++ []) (sym same), λ some. absurd (omega arith))
first_of records true bytes got (cut, parts, whole, one) = (cut, parts, λ some. whole)

fronts_of : (records : Records) (fails : List Bool) (done read : List (List ℕ)) → AreRead records fails done read → AllZip (AreFirstRecords records) done read
fronts_of records [] [] [] are = tt
fronts_of records [] [] (r ∷ read) are = absurd are
fronts_of records [] (d ∷ done) read are = absurd are
fronts_of records (f ∷ fails) [] read are = absurd are
fronts_of records (f ∷ fails) (d ∷ done) [] are = absurd are
fronts_of records (f ∷ fails) (d ∷ done) (r ∷ read) are = (first_of records f d r are.0, fronts_of records fails done read are.1)

-- none of the inputs has a record that is too long
all_more : (P : List ℕ → Type 0) (done : List (List ℕ)) (bytes : List ℕ) → AllByRecursion P done → P bytes → AllByRecursion P (done ++ bytes ∷ [])
all_more P [] bytes all p = (p, tt)
all_more P (d ∷ done) bytes all p = (all.0, all_more P done bytes all.1 p)

all_among : (P : List ℕ → Type 0) (earlier later : List (List ℕ)) (input : List ℕ) → AllByRecursion P (earlier ++ input ∷ later) → P input
all_among P [] later input all = all.0
all_among P (d ∷ earlier) later input all = all_among P earlier later input all.1

module _ (records : Records) (limit : ℕ) {S : Type 0} (takes : S → List ℕ → S → Type 0) where
  -- the lines of one more list
  each_more : (a b c : S) (lists : List (List ℕ)) (bytes : List ℕ) → TakesEach takes a lists b → takes b bytes c → TakesEach takes a (lists ++ bytes ∷ []) c
  each_more a b c [] bytes same more = (c, subst (λ (s : S). takes s bytes c) same more, refl)
  each_more a b c (first ∷ lists) bytes (mid, one, rest) more = (mid, one, each_more mid b c lists bytes rest more)

  pub record HasTakenInputs (complete : Bool) (inputs left : List (List ℕ)) (fails later_fail : List Bool) (old new : S) : Type 0 where
    pub done : List (List ℕ)
    pub read : List (List ℕ)
    pub done_fail : List Bool
    pub parts : inputs ≡ done ++ left
    pub flags : fails ≡ done_fail ++ later_fail
    pub complete_is : complete ≡ none_fails done_fail
    pub are : AreRead records done_fail done read
    pub fit : AllByRecursion (Fits records limit) done
    pub taken : TakesEach takes old read new

  -- if the inputs are known, the lines of those before the ones that are left were taken
  abbrev pub HasTakenSome : Bool → Option (List (List ℕ)) → Option (List (List ℕ)) → List Bool → List Bool → (old new : S) → Type 0
  HasTakenSome complete was is fails later_fail old new = IfSome was (λ inputs. (left : List (List ℕ)) × (is ≡ Some left) × HasTakenInputs complete inputs left fails later_fail old new)

  pub inputs_none : (was : Option (List (List ℕ))) (fails : List Bool) (old : S) → HasTakenSome true was was fails fails old old
  inputs_none None fails old = tt
  inputs_none (Some inputs) fails old = (inputs, refl, record { done = []; read = []; done_fail = []; parts = refl; flags = refl; complete_is = refl; are = tt; fit = tt; taken = refl })

  pub inputs_more : {R E : Type 0} (remaining : R → Option (List ℕ)) (fails_after : R → Bool) (complete more : Bool) (was is is' is'' : Option (List (List ℕ))) (fails now next_fail last : List Bool) (old mid new : S) (next : Option R) (reader : R) (failure : Option E)
      → HasTakenSome complete was is fails now old mid → OpensNext remaining fails_after is is' now next_fail next → next ≡ Some reader → TakesInput records takes (remaining reader) (fails_after reader) failure mid new → IfSome (remaining reader) (Fits records limit) → is'' ≡ is' → last ≡ next_fail → more ≡ (complete && not (is_some failure)) → HasTakenSome more was is'' fails last old new
  inputs_more remaining fails_after complete more None is is' is'' fails now next_fail last old mid new next reader failure so opens e taken fits kept same both = tt
  inputs_more remaining fails_after complete more (Some inputs) is is' is'' fails now next_fail last old mid new next reader failure (left, here, so) opens e taken fits kept same both =
      let (bytes, later, parts, known, after, flags) = rw (here, e) at opens in
      let fail : Bool = fails_after reader in
      let (is_failed, (got, of, takes_got)) = rw known at taken in (
        later,
        kept ∙ after,
        record {
          done = so.done ++ bytes ∷ [];
          read = so.read ++ got ∷ [];
          done_fail = so.done_fail ++ fail ∷ [];
          parts = so.parts ∙ (ap (λ l. so.done ++ l) parts ∙ sym (append_assoc so.done (bytes ∷ []) later));
          flags = so.flags ∙ (ap (λ l. so.done_fail ++ l) (flags ∙ ap (λ (l : List Bool). fail ∷ l) (sym same)) ∙ sym (append_assoc so.done_fail (fail ∷ []) last));
          complete_is = both ∙ (ap (λ (b : Bool). b && not (is_some failure)) so.complete_is ∙ (ap (λ (b : Bool). none_fails so.done_fail && not b) is_failed ∙ sym (none_more so.done_fail fail)));
          are = are_more records so.done_fail fail so.done so.read bytes got so.are of;
          fit = all_more (Fits records limit) so.done bytes so.fit (rw known at fits);
          taken = each_more old mid new so.read got so.taken takes_got;
        },
      )

  pub inputs_all : {R : Type 0} (remaining : R → Option (List ℕ)) (fails_after : R → Bool) (complete : Bool) (was is is' : Option (List (List ℕ))) (fails now next_fail : List Bool) (old new : S) (next : Option R)
      → HasTakenSome complete was is fails now old new → OpensNext remaining fails_after is is' now next_fail next → next ≡ None → TakesInputs records takes was fails complete old new
  inputs_all remaining fails_after complete None is is' fails now next_fail old new next so opens e = tt
  inputs_all remaining fails_after complete (Some inputs) is is' fails now next_fail old new next (left, here, so) opens e =
      let (none, none_flags) = rw (here, e) at opens in
      let whole : inputs ≡ so.done = so.parts ∙ (ap (λ l. so.done ++ l) none ∙ append-nil so.done) in
      let flags : fails ≡ so.done_fail = so.flags ∙ (ap (λ l. so.done_fail ++ l) none_flags ∙ append-nil so.done_fail) in (
        so.complete_is ∙ ap none_fails (sym flags),
        (
          so.read,
          subst (λ l. AreRead records fails l so.read) (sym whole) (subst (λ (f : List Bool). AreRead records f so.done so.read) (sym flags) so.are),
          so.taken,
        ),
      )

  pub inputs_fit : {R : Type 0} (remaining : R → Option (List ℕ)) (fails_after : R → Bool) (complete : Bool) (was is is' : Option (List (List ℕ))) (fails now next_fail : List Bool) (old new : S) (next : Option R)
      → HasTakenSome complete was is fails now old new → OpensNext remaining fails_after is is' now next_fail next → next ≡ None → IfSome was (λ inputs. HaveLongRecord records limit inputs → ⊥)
  inputs_fit remaining fails_after complete None is is' fails now next_fail old new next so opens e = tt
  inputs_fit remaining fails_after complete (Some inputs) is is' fails now next_fail old new next (left, here, so) opens e =
      let (none, none_flags) = rw (here, e) at opens in
      let whole : so.done ≡ inputs = sym (so.parts ∙ (ap (λ l. so.done ++ l) none ∙ append-nil so.done)) in
      λ long. all_among (Fits records limit) long.earlier long.later long.input (subst (AllByRecursion (Fits records limit)) (whole ∙ long.parts) so.fit) long.long

  -- ---- a failure at one of the inputs

  -- reading stops between two inputs
  pub inputs_stopped : (complete : Bool) (was is : Option (List (List ℕ))) (fails now : List Bool) (old mid : S) → HasTakenSome complete was is fails now old mid → IfSome was (λ inputs. TakesFirst records takes inputs old mid)
  inputs_stopped complete None is fails now old mid so = tt
  inputs_stopped complete (Some inputs) is fails now old mid (left, here, so) =
      record { first = so.done; later = left; parts = so.parts; read = so.read; fronts = fronts_of records so.done_fail so.done so.read so.are; taken = so.taken }

  stopped_among : {R : Type 0} (remaining : R → Option (List ℕ)) (fails_after : R → Bool) (complete : Bool) (was is is' : Option (List (List ℕ))) (flags now next_fail : List Bool) (old mid new : S) (next : Option R) (reader : R)
      → HasTakenSome complete was is flags now old mid → OpensNext remaining fails_after is is' now next_fail next → next ≡ Some reader → IfSome (remaining reader) (λ bytes. (got : List ℕ) × AreFirstRecords records bytes got × takes mid got new) → IfSome was (λ inputs. TakesFirst records takes inputs old new)
  stopped_among remaining fails_after complete None is is' flags now next_fail old mid new next reader so opens e stops = tt
  stopped_among remaining fails_after complete (Some inputs) is is' flags now next_fail old mid new next reader (left, here, so) opens e stops =
      let (bytes, later, parts, known, after, _) = rw (here, e) at opens in
      let (got, front, taken) = rw known at stops in
      record {
        first = so.done ++ bytes ∷ [];
        later = later;
        parts = so.parts ∙ (ap (λ l. so.done ++ l) parts ∙ sym (append_assoc so.done (bytes ∷ []) later));
        read = so.read ++ got ∷ [];
        fronts = all_zip_push (AreFirstRecords records) so.done so.read bytes got (fronts_of records so.done_fail so.done so.read so.are) front;
        taken = each_more old mid new so.read got so.taken taken;
      }

  long_among : {R : Type 0} (remaining : R → Option (List ℕ)) (fails_after : R → Bool) (complete : Bool) (was is is' : Option (List (List ℕ))) (flags now next_fail : List Bool) (old mid : S) (next : Option R) (reader : R)
      → HasTakenSome complete was is flags now old mid → OpensNext remaining fails_after is is' now next_fail next → next ≡ Some reader → IfSome (remaining reader) (HasLongRecord records limit) → IfSome was (HaveLongRecord records limit)
  long_among remaining fails_after complete None is is' flags now next_fail old mid next reader so opens e long = tt
  long_among remaining fails_after complete (Some inputs) is is' flags now next_fail old mid next reader (left, here, so) opens e long =
      let (bytes, later, parts, known, after, _) = rw (here, e) at opens in
      record { earlier = so.done; input = bytes; later = later; parts = so.parts ∙ ap (λ l. so.done ++ l) parts; long = rw known at long }

  module _ (may fails : S → List ℕ → S → Failure → Type 0) where
    fails_among : {R : Type 0} (remaining : R → Option (List ℕ)) (fails_after : R → Bool) (complete : Bool) (was is is' : Option (List (List ℕ))) (flags now next_fail : List Bool) (old mid new : S) (next : Option R) (reader : R) (e : Failure)
        → HasTakenSome complete was is flags now old mid → OpensNext remaining fails_after is is' now next_fail next → next ≡ Some reader → IfSome (remaining reader) (λ bytes. fails mid bytes new e) → IfSome was (λ inputs. FailsAmong records takes fails inputs old new e)
    fails_among remaining fails_after complete None is is' flags now next_fail old mid new next reader e so opens is_next known = tt
    fails_among remaining fails_after complete (Some inputs) is is' flags now next_fail old mid new next reader e (left, here, so) opens is_next reason =
        let (bytes, later, parts, known, after, _) = rw (here, is_next) at opens in
        record {
          earlier = so.done;
          input = bytes;
          later = later;
          parts = so.parts ∙ ap (λ l. so.done ++ l) parts;
          read = so.read;
          fronts = fronts_of records so.done_fail so.done so.read so.are;
          mid = mid;
          taken = so.taken;
          reason = rw known at reason;
        }

    pub inputs_failed : {R : Type 0} (remaining : R → Option (List ℕ)) (fails_after : R → Bool) (complete : Bool) (was is is' : Option (List (List ℕ))) (flags now next_fail : List Bool) (old mid new : S) (next : Option R) (reader : R) (e : Failure)
        → HasTakenSome complete was is flags now old mid → OpensNext remaining fails_after is is' now next_fail next → next ≡ Some reader → FailsInput records takes may fails limit (remaining reader) mid new e → FailsInputs records takes may fails limit was old new e
    inputs_failed remaining fails_after complete was is is' flags now next_fail old mid new next reader e so opens is_next failed =
        ⊎_elim
        (λ stops. inl (
          ⊎_elim (λ memory. inl memory) (λ long. inr (long.0, long_among remaining fails_after complete was is is' flags now next_fail old mid next reader so opens is_next long.1)) stops.0,
          stopped_among remaining fails_after complete was is is' flags now next_fail old mid new next reader so opens is_next stops.1,
        ))
        (λ taking. inr (record { some = taking.some; known = fails_among remaining fails_after complete was is is' flags now next_fail old mid new next reader e so opens is_next taking.known }))
        failed
