-- The numbers that calls hand on, and those of errors.
use Rattle.std.proofs.Common.{◌≡◌, ◌<◌, ℤ, ap, sym, subst, ◌∙◌}
use lib.Signed.{mag}
use mir.Syntax.{w32}
use mir.Val.{of_z, to_z}
use Rattle.std.specs.Prelude.{Err, IsErrOf}
use Rattle.std.proofs.lemmas.Int.{to_z-of_z}
use Rattle.sketch_base.specs.Errors.{ErrorValue}
use Rattle.sketch_base.specs.declared.fault.Fault.{Fault}
use Rattle.sketch_base.specs.declared.fault.Fault.TheVariants as fault
use Rattle.datasketches_c.specs.Numbers.{OnDone, ok, refusal_number}

-- an answer that was handed on
pub same_answer : (answer : ℤ) → mag answer < 2147483648 → to_z w32 (of_z w32 answer) ≡ answer
same_answer answer small = to_z-of_z w32 answer (record { sfits = small })

-- an answer whose bits are none is that of a call that was done
pub is_done : (answer : ℤ) → mag answer < 2147483648 → of_z w32 answer ≡ 0 → answer ≡ ok
is_done answer small bits = sym (same_answer answer small) ∙ ap (to_z w32) bits

-- the number of a refusal that is known
pub refused_as : (error of : ErrorValue) (fault : Fault) (answer : ℤ) → mag answer < 2147483648 → fault ≡ error.fault → answer ≡ refusal_number fault → error ≡ of
    → to_z w32 (of_z w32 answer) ≡ refusal_number of.fault
refused_as error of fault answer small is number same = same_answer answer small ∙ (number ∙ ap refusal_number (is ∙ ap (λ (e : ErrorValue). e.fault) same))

-- the same where it is said of the result
pub refused_for : {V : Type 0} (error of : ErrorValue) (fault : Fault) (answer : ℤ) → mag answer < 2147483648 → fault ≡ error.fault
    → answer ≡ refusal_number fault → IsErrOf {T = V} (Err error) of → to_z w32 (of_z w32 answer) ≡ refusal_number of.fault
refused_for error of fault answer small is number for =
    let same : error ≡ of = cc in
    refused_as error of fault answer small is number same

-- the number of a refusal is that of no call that was done
below_zero : (of : Fault) (P : Type 0) → OnDone (refusal_number of) P
below_zero fault.BadNumBits P = tt
below_zero fault.BadNumHashes P = tt
below_zero fault.BadNumBuckets P = tt
below_zero fault.TableTooLarge P = tt
below_zero fault.ZeroSeedHash P = tt
below_zero fault.Mismatch P = tt
below_zero fault.WeightOverflow P = tt
below_zero fault.MapSizeNotPowerOfTwo P = tt
below_zero fault.MapSizeTooSmall P = tt
below_zero fault.MapSizeTooLarge P = tt
below_zero fault.ItemTooLong P = tt
below_zero fault.InsufficientData P = tt
below_zero fault.BadFamily P = tt
below_zero fault.BadVersion P = tt
below_zero fault.BadPreamble P = tt
below_zero fault.BadNumWords P = tt
below_zero fault.BadBitCount P = tt
below_zero fault.SeedHashMismatch P = tt
below_zero fault.ValueOutOfRange P = tt
below_zero fault.NegativeTotal P = tt
below_zero fault.CellAboveTotal P = tt
below_zero fault.LgCurTooSmall P = tt
below_zero fault.LgMaxTooLarge P = tt
below_zero fault.LgCurAboveMax P = tt
below_zero fault.EmptyFlagMismatch P = tt
below_zero fault.TooManyActive P = tt
below_zero fault.ZeroTotal P = tt
below_zero fault.WeightsExceedTotal P = tt
below_zero fault.ErrorExceedsTotal P = tt
below_zero fault.InvalidUtf8 P = tt
below_zero fault.BadItem P = tt
below_zero fault.NoMemory P = tt
below_zero fault.BadSampleSize P = tt
below_zero fault.BadWindows P = tt
below_zero fault.BadOffsets P = tt
below_zero fault.BadWeight P = tt

-- so nothing has to hold where it is handed on
pub refused_not_done : (of : Fault) (answer : ℤ) (P : Type 0) → mag answer < 2147483648 → answer ≡ refusal_number of → OnDone (to_z w32 (of_z w32 answer)) P
refused_not_done of answer P small number = subst (λ (z : ℤ). OnDone z P) (sym (same_answer answer small ∙ number)) (below_zero of P)
