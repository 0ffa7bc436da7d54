pub mod BoundsLemmas
pub mod Comparing
pub mod Places
pub mod RowCounts
pub mod SoundImages
pub mod Spreading
pub mod StringImages
