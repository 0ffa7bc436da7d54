-- What is shown of an image.
use Rattle.std.specs.Prelude.{◌≡◌, ◌≢◌, ◌⊎◌, ℕ, ◌<◌, ◌≤◌, ◌==◌, List, [], ◌∷◌, ◌++◌, length, Option, Some, None, codes, if◌then◌else◌}
use Rattle.std.specs.Fmt.{decimal}
use Rattle.std.specs.Io.KnownBytes.{Appends}
use Rattle.std.specs.List.{flat_map}
use Rattle.std.specs.declared.io.Error.{Error}
use Rattle.any_sketch.specs.Kinds.{kind_of}
use Rattle.any_sketch.specs.Numbers.{number_of}
use Rattle.any_sketch.specs.Reading.{IsRead, first_fault}
use Rattle.any_sketch.specs.declared.any_sketch.AnySketch.{AnySketch}
use Rattle.any_sketch.specs.declared.image_options.ImageOptions.{ImageOptions}
use Rattle.any_sketch.specs.declared.kind.Kind.{Kind}
use Rattle.any_sketch.specs.declared.kind.Kind.TheVariants.{Filter, CountU64, CountI64, FrequentU64, FrequentI64, FrequentStrings}
use Rattle.any_sketch.specs.declared.number.Number.{Number}
use Rattle.any_sketch.specs.declared.number.Number.TheVariants.{Seed, NumBits, BitsUsed, NumHashes, NumBuckets, TotalWeight, MaximumError, NumActiveItems, MaxMapSize}
use Rattle.sketch_base.specs.Fields.{byte_at}
use Rattle.sketch_base.specs.declared.fault.Fault.TheVariants.{NegativeTotal}
use Rattle.sketches.specs.ImageFailures.{IsOfWrite, IsUnread}
use Rattle.sketches.specs.Outputs.{WritesFront}
use Rattle.sketches.specs.declared.image.images.ImageFailure.{ImageFailure}
use Rattle.sketches.specs.declared.image.images.ImageFailure.TheVariants.{Memory, Rejected, TrailingBytes}

-- the line of a value
abbrev pub value_line : List ℕ → ℕ → List ℕ
value_line name value = name ++ codes "\t" ++ decimal value ++ codes "\n"

-- the line of a number that a sketch may have
abbrev pub number_line : List ℕ → Option ℕ → List ℕ
number_line name None = []
number_line name (Some value) = value_line name value

-- the name of a kind
abbrev pub kind_name : Kind → List ℕ
kind_name Filter = codes "Bloom filter"
kind_name CountU64 = codes "Count-Min sketch"
kind_name CountI64 = codes "Count-Min sketch"
kind_name FrequentU64 = codes "frequent items of numbers"
kind_name FrequentI64 = codes "frequent items of numbers"
kind_name FrequentStrings = codes "frequent items of strings"

-- the numbers that are shown of a kind, each with its name
abbrev pub filter_names : List (List ℕ × Number)
filter_names = (codes "bits", NumBits) ∷ (codes "hashes", NumHashes) ∷ (codes "seed", Seed) ∷ (codes "set_bits", BitsUsed) ∷ []

abbrev pub count_names : List (List ℕ × Number)
count_names = (codes "hashes", NumHashes) ∷ (codes "buckets", NumBuckets) ∷ (codes "total", TotalWeight) ∷ []

abbrev pub frequent_names : List (List ℕ × Number)
frequent_names =
    (codes "max_size", MaxMapSize) ∷ (codes "counters", NumActiveItems) ∷ (codes "total", TotalWeight) ∷ (codes "error", MaximumError) ∷ []

abbrev pub names_of : Kind → List (List ℕ × Number)
names_of Filter = filter_names
names_of CountU64 = count_names
names_of CountI64 = count_names
names_of kind = frequent_names

-- the lines of a sketch: its kind, and the numbers that are shown of it
abbrev pub sketch_text : AnySketch → List ℕ
sketch_text sketch =
    (codes "kind\t" ++ kind_name (kind_of sketch) ++ codes "\n")
    ++ flat_map (λ named. number_line named.0 (number_of sketch named.1)) (names_of (kind_of sketch))

-- The kind as which an image is read first, by its family. The numbers of a Count-Min sketch have a sign then.
abbrev pub kind_in : List ℕ → Kind
kind_in image =
    if byte_at image 2 == 21 then Filter else if byte_at image 2 == 18 then CountI64 else FrequentStrings

-- the bytes are an image of the sketch as one of this kind, and nothing more
abbrev pub IsWhole : Kind → ImageOptions → List ℕ → AnySketch → Type 0
IsWhole kind options image sketch = IsRead kind image options sketch (length image)

-- why the bytes are no such image: the first fault, or bytes that follow. An allocation can fail at any image
abbrev pub IsNotWhole : Kind → ImageOptions → List ℕ → ImageFailure → Type 0
IsNotWhole kind options image Memory = Unit {0}
IsNotWhole kind options image (Rejected fault) = first_fault kind image options ≡ Some fault
IsNotWhole kind options image TrailingBytes =
    (sketch : AnySketch) × (used : ℕ) × IsRead kind image options sketch used × (used < length image)
IsNotWhole kind options image _ = ⊥

-- with a sign, the first fault is that the total is negative
abbrev pub IsNegative : ImageOptions → List ℕ → Type 0
IsNegative options image = first_fault CountI64 image options ≡ Some NegativeTotal

-- the bytes are an image of the sketch, whose numbers have no sign if the total would be negative
abbrev pub IsImageFor : Kind → ImageOptions → List ℕ → AnySketch → Type 0
IsImageFor CountI64 options image sketch =
    IsWhole CountI64 options image sketch ⊎ (IsNegative options image × IsWhole CountU64 options image sketch)
IsImageFor kind options image sketch = IsWhole kind options image sketch

-- why the bytes are no such image
abbrev pub IsBadFor : Kind → ImageOptions → List ℕ → ImageFailure → Type 0
IsBadFor CountI64 options image failure =
    (IsNotWhole CountI64 options image failure × (failure ≢ Rejected NegativeTotal))
    ⊎ (IsNegative options image × IsNotWhole CountU64 options image failure)
IsBadFor kind options image failure = IsNotWhole kind options image failure

-- the image, within the limit, is one of the sketch of these lines
pub record States (options : ImageOptions) (image text : List ℕ) : Type 0 where
  pub sketch : AnySketch
  pub fits : length image ≤ options.max_bytes
  pub image_of : IsImageFor (kind_in image) options image sketch
  pub lines : text ≡ sketch_text sketch

-- the writer received the lines of the image
abbrev pub ShowsImage : ImageOptions → List ℕ → Option (List ℕ) → Option (List ℕ) → Type 0
ShowsImage options image held holds = (text : List ℕ) × States options image text × Appends held holds text

-- a write has failed with this error, and the output has the front of the lines of the image
abbrev pub StopsShow : ImageOptions → List ℕ → (write_error : Option Error) → (held holds : Option (List ℕ)) → Error → Type 0
StopsShow options image write_error held holds error =
    (write_error ≡ Some error) × ((text : List ℕ) × States options image text × WritesFront held holds text)

-- why the image is not shown, or not whole. `output` holds of the error of the output
abbrev pub IsNotShown : ImageOptions → List ℕ → (output : Error → Type 0) → ImageFailure → Type 0
IsNotShown options image output failure =
    IsUnread options.max_bytes image failure ⊎ (IsBadFor (kind_in image) options image failure ⊎ IsOfWrite output failure)
