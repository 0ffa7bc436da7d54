mod Ascii
pub mod BothEnds
pub mod Blocks
pub mod DirectRemainder
mod FirstWords
pub mod KeptBytes
pub mod LittleEndian
mod MapHashing
mod MarkedWords
mod Marks
pub mod ManyStrings
pub mod Murmur3Pieces
pub mod PartsUtf8
pub mod Rotation
pub mod Searching
pub mod Separators
pub mod Series
pub mod SipHashPieces
pub mod SipStrings
pub mod SipWords
pub mod SplitEnds
pub mod SplitLines
pub mod SplitWords
pub mod StringBoundaries
pub mod StringEnd
pub mod ValidBits
mod Vectors
mod WordEnds
pub mod Writing
pub mod Xxh64Pieces
pub mod Xxh64String
pub mod Yielded
