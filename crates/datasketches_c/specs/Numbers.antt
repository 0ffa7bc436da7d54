-- Results of calls, as numbers. Errors are below 0.
use Rattle.std.specs.Prelude.{ℤ, pos, negsuc}
use Rattle.sketch_base.specs.declared.fault.Fault.{Fault}
use Rattle.sketch_base.specs.declared.fault.Fault.TheVariants as fault

-- the statement holds if the result is no error
abbrev pub OnDone : ℤ → Type 0 → Type 0
OnDone (pos n) said = said
OnDone (negsuc n) said = Unit {0}

-- the statement holds if the result is an error
abbrev pub OnRefused : ℤ → Type 0 → Type 0
OnRefused (pos n) said = Unit {0}
OnRefused (negsuc n) said = said

-- the call succeeded: 0
abbrev pub ok : ℤ
ok = pos 0

-- the result is no: 0
abbrev pub no : ℤ
no = pos 0

-- the result is yes: 1
abbrev pub yes : ℤ
yes = pos 1

-- the handle has no sketch: -1
abbrev pub no_sketch : ℤ
no_sketch = negsuc 0

-- the handle's sketch is of a kind without this call: -2
abbrev pub wrong_kind : ℤ
wrong_kind = negsuc 1

-- a buffer of the caller does not have the length that the call needs: -3
abbrev pub no_room : ℤ
no_room = negsuc 2

-- a fraction is not above 0 and at most 1: -4
abbrev pub bad_fraction : ℤ
bad_fraction = negsuc 3

-- the kind of many items is not known: -5. The C header uses the number for null pointers, too
abbrev pub bad_argument : ℤ
bad_argument = negsuc 4

-- there are no offsets, or they descend, or one exceeds the length of the buffer: -6
abbrev pub bad_offsets : ℤ
bad_offsets = negsuc 5

-- the sketch is shared, and the call changes it: -8
abbrev pub shared : ℤ
shared = negsuc 7

-- the sketch is not shared, and the call takes shared ones alone: -9
abbrev pub not_shared : ℤ
not_shared = negsuc 8

-- the result for a fault: -11 or below, or that of bad offsets
abbrev pub refusal_number : Fault → ℤ
refusal_number fault.BadNumBits = negsuc 10
refusal_number fault.BadNumHashes = negsuc 11
refusal_number fault.BadNumBuckets = negsuc 12
refusal_number fault.TableTooLarge = negsuc 13
refusal_number fault.ZeroSeedHash = negsuc 14
refusal_number fault.Mismatch = negsuc 15
refusal_number fault.WeightOverflow = negsuc 16
refusal_number fault.MapSizeNotPowerOfTwo = negsuc 17
refusal_number fault.MapSizeTooSmall = negsuc 18
refusal_number fault.MapSizeTooLarge = negsuc 19
refusal_number fault.ItemTooLong = negsuc 20
refusal_number fault.InsufficientData = negsuc 21
refusal_number fault.BadFamily = negsuc 22
refusal_number fault.BadVersion = negsuc 23
refusal_number fault.BadPreamble = negsuc 24
refusal_number fault.BadNumWords = negsuc 25
refusal_number fault.BadBitCount = negsuc 26
refusal_number fault.SeedHashMismatch = negsuc 27
refusal_number fault.ValueOutOfRange = negsuc 28
refusal_number fault.NegativeTotal = negsuc 29
refusal_number fault.CellAboveTotal = negsuc 30
refusal_number fault.LgCurTooSmall = negsuc 31
refusal_number fault.LgMaxTooLarge = negsuc 32
refusal_number fault.LgCurAboveMax = negsuc 33
refusal_number fault.EmptyFlagMismatch = negsuc 34
refusal_number fault.TooManyActive = negsuc 35
refusal_number fault.ZeroTotal = negsuc 36
refusal_number fault.WeightsExceedTotal = negsuc 37
refusal_number fault.ErrorExceedsTotal = negsuc 38
refusal_number fault.InvalidUtf8 = negsuc 39
refusal_number fault.BadItem = negsuc 40
refusal_number fault.NoMemory = negsuc 41
refusal_number fault.BadSampleSize = negsuc 42
refusal_number fault.BadWindows = negsuc 43
refusal_number fault.BadOffsets = bad_offsets
refusal_number fault.BadWeight = negsuc 44
