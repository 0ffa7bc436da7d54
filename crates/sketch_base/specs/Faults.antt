-- The names and messages of faults.
use Rattle.std.specs.Prelude.{ℕ, List, codes}
use Rattle.sketch_base.specs.declared.fault.Fault.{Fault}
use Rattle.sketch_base.specs.declared.fault.Fault.TheVariants as fault

-- a fault's name and its message
abbrev pub fault_words : Fault → List ℕ × List ℕ
fault_words fault.BadNumBits = (codes "BadNumBits", codes "num_bits out of range")
fault_words fault.BadNumHashes = (codes "BadNumHashes", codes "num_hashes out of range")
fault_words fault.BadNumBuckets = (codes "BadNumBuckets", codes "num_buckets below 3")
fault_words fault.TableTooLarge = (codes "TableTooLarge", codes "table too large")
fault_words fault.ZeroSeedHash = (codes "ZeroSeedHash", codes "seed hash is zero")
fault_words fault.Mismatch = (codes "Mismatch", codes "shapes or seeds differ")
fault_words fault.WeightOverflow = (codes "WeightOverflow", codes "total weight overflow")
fault_words fault.MapSizeNotPowerOfTwo = (codes "MapSizeNotPowerOfTwo", codes "map size is not a power of two")
fault_words fault.MapSizeTooSmall = (codes "MapSizeTooSmall", codes "map size below 8")
fault_words fault.MapSizeTooLarge = (codes "MapSizeTooLarge", codes "map size above 2^30")
fault_words fault.ItemTooLong = (codes "ItemTooLong", codes "item too long")
fault_words fault.InsufficientData = (codes "InsufficientData", codes "insufficient data")
fault_words fault.BadFamily = (codes "BadFamily", codes "wrong family")
fault_words fault.BadVersion = (codes "BadVersion", codes "wrong serial version")
fault_words fault.BadPreamble = (codes "BadPreamble", codes "wrong preamble longs")
fault_words fault.BadNumWords = (codes "BadNumWords", codes "number of words below 1")
fault_words fault.BadBitCount = (codes "BadBitCount", codes "wrong number of set bits")
fault_words fault.SeedHashMismatch = (codes "SeedHashMismatch", codes "seed hashes differ")
fault_words fault.ValueOutOfRange = (codes "ValueOutOfRange", codes "value out of range")
fault_words fault.NegativeTotal = (codes "NegativeTotal", codes "total weight is negative")
fault_words fault.CellAboveTotal = (codes "CellAboveTotal", codes "counter exceeds total weight")
fault_words fault.LgCurTooSmall = (codes "LgCurTooSmall", codes "current map size below 8")
fault_words fault.LgMaxTooLarge = (codes "LgMaxTooLarge", codes "greatest map size above 2^30")
fault_words fault.LgCurAboveMax = (codes "LgCurAboveMax", codes "current map size above greatest")
fault_words fault.EmptyFlagMismatch = (codes "EmptyFlagMismatch", codes "empty flag does not match preamble")
fault_words fault.TooManyActive = (codes "TooManyActive", codes "too many active items")
fault_words fault.ZeroTotal = (codes "ZeroTotal", codes "total weight is zero")
fault_words fault.WeightsExceedTotal = (codes "WeightsExceedTotal", codes "weights exceed total weight")
fault_words fault.ErrorExceedsTotal = (codes "ErrorExceedsTotal", codes "weights and error exceed total weight")
fault_words fault.InvalidUtf8 = (codes "InvalidUtf8", codes "invalid UTF-8")
fault_words fault.BadItem = (codes "BadItem", codes "bad item")
fault_words fault.NoMemory = (codes "NoMemory", codes "out of memory")
fault_words fault.BadSampleSize = (codes "BadSampleSize", codes "sample size out of range")
fault_words fault.BadWindows = (codes "BadWindows", codes "windows out of range")
fault_words fault.BadOffsets = (codes "BadOffsets", codes "offsets missing, descending or out of range")
fault_words fault.BadWeight = (codes "BadWeight", codes "weight missing or no number in range")

-- a fault's message, which it prints
abbrev pub fault_text : Fault → List ℕ
fault_text f = (fault_words f).1

-- a fault's name
abbrev pub fault_name : Fault → List ℕ
fault_name f = (fault_words f).0
