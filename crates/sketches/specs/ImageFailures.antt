-- The errors of runs over images.
use Rattle.std.specs.Prelude.{◌≡◌, ◌⊎◌, ℕ, ◌<◌, ◌≤◌, ◌^◌, List, [], length, Some, Option, Any, sum_by}
use denote.RattleType.{RattleType}
use Rattle.std.specs.contracts.alloc.Global as heap
use Rattle.std.specs.contracts.impls.GlobalAllocator.TheImpl.{ghosts}
use Rattle.std.specs.contracts.string.String as string
use Rattle.std.specs.declared.io.Error.{Error}
use Rattle.sketch_base.specs.declared.fault.Fault.{Fault}
use Rattle.sketch_frequencies.specs.Image.{first_fault_within, prefix_bytes}
use Rattle.sketch_frequencies.specs.Items.{text_codec}
use Rattle.sketches.specs.Images.{total_in}
use Rattle.sketches.specs.declared.image.images.ImageFailure.{ImageFailure}
use Rattle.sketches.specs.declared.image.images.ImageFailure.TheVariants.{Memory, NoImage, Read, TooLong, Rejected, TrailingBytes, TooManyItems, Write}

-- the memory layout of a string
abbrev pub string_row : RattleType
string_row = string.the_row heap.the_row ghosts

-- the fault of the first failing check of the bytes, where the table and the strings may take `limit` bytes
abbrev pub fault_within : ℕ → List ℕ → Option Fault
fault_within limit image = first_fault_within string_row limit text_codec image

-- why the bytes of an image were not read whole. A read or an allocation can fail at any image
abbrev pub IsUnread : ℕ → List ℕ → ImageFailure → Type 0
IsUnread limit image Memory = Unit {0}
IsUnread limit image NoImage = ⊥
IsUnread limit image (Read error) = Unit {0}
IsUnread limit image TooLong = limit < length image
IsUnread limit image (Rejected fault) = ⊥
IsUnread limit image TrailingBytes = ⊥
IsUnread limit image TooManyItems = ⊥
IsUnread limit image (Write error) = ⊥

-- why bytes are not an image and nothing more, by their first fault, and the number of bytes that an image takes of all. An allocation
-- can fail at any image
abbrev pub IsBad : (fault : Option Fault) → (used all : ℕ) → ImageFailure → Type 0
IsBad fault used all Memory = Unit {0}
IsBad fault used all NoImage = ⊥
IsBad fault used all (Read error) = ⊥
IsBad fault used all TooLong = ⊥
IsBad fault used all (Rejected first) = fault ≡ Some first
IsBad fault used all TrailingBytes = used < all
IsBad fault used all TooManyItems = ⊥
IsBad fault used all (Write error) = ⊥

-- why the bytes are not an image of a sketch of strings
abbrev pub IsBadImage : ℕ → List ℕ → ImageFailure → Type 0
IsBadImage limit image failure = IsBad (fault_within limit image) (prefix_bytes text_codec image) (length image) failure

-- why the sketch of an image was not read
abbrev pub IsRejected : ℕ → List ℕ → ImageFailure → Type 0
IsRejected limit image failure = IsUnread limit image failure ⊎ IsBadImage limit image failure

-- why a merge of these images ends. A read or an allocation can fail at any images. `output` holds of the error of the output
abbrev pub EndsMerge : ℕ → List (List ℕ) → (output : Error → Type 0) → ImageFailure → Type 0
EndsMerge limit images output Memory = Unit {0}
EndsMerge limit images output NoImage = images ≡ []
EndsMerge limit images output (Read error) = Unit {0}
EndsMerge limit images output TooLong = Any (λ image. limit < length image) images
EndsMerge limit images output (Rejected fault) = Any (λ image. fault_within limit image ≡ Some fault) images
EndsMerge limit images output TrailingBytes = Any (λ image. prefix_bytes text_codec image < length image) images
EndsMerge limit images output TooManyItems = 2 ^ 64 ≤ sum_by total_in images
EndsMerge limit images output (Write error) = output error

-- the output could not be written
abbrev pub IsWriteFailure : ImageFailure → Type 0
IsWriteFailure Memory = ⊥
IsWriteFailure NoImage = ⊥
IsWriteFailure (Read error) = ⊥
IsWriteFailure TooLong = ⊥
IsWriteFailure (Rejected fault) = ⊥
IsWriteFailure TrailingBytes = ⊥
IsWriteFailure TooManyItems = ⊥
IsWriteFailure (Write error) = Unit {0}

-- the failure may come after the merged sketch was kept
abbrev pub ComesAfterKeeping : ImageFailure → Type 0
ComesAfterKeeping Memory = Unit {0}
ComesAfterKeeping NoImage = ⊥
ComesAfterKeeping (Read error) = ⊥
ComesAfterKeeping TooLong = ⊥
ComesAfterKeeping (Rejected fault) = ⊥
ComesAfterKeeping TrailingBytes = ⊥
ComesAfterKeeping TooManyItems = ⊥
ComesAfterKeeping (Write error) = Unit {0}

-- the output could not be written, and `output` holds of the error
abbrev pub IsOfWrite : (output : Error → Type 0) → ImageFailure → Type 0
IsOfWrite output Memory = ⊥
IsOfWrite output NoImage = ⊥
IsOfWrite output (Read error) = ⊥
IsOfWrite output TooLong = ⊥
IsOfWrite output (Rejected fault) = ⊥
IsOfWrite output TrailingBytes = ⊥
IsOfWrite output TooManyItems = ⊥
IsOfWrite output (Write error) = output error

-- why a merge of two sketches of this total ends
abbrev pub EndsAdding : ℕ → ImageFailure → Type 0
EndsAdding total failure = (failure ≡ Memory) ⊎ ((failure ≡ TooManyItems) × (2 ^ 64 ≤ total))
