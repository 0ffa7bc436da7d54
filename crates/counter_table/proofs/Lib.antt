pub mod ArithmeticPowers
pub mod ArithmeticRing
pub mod CloneSlots
pub mod GrowthMoves
pub mod InsertionCounts
pub mod InsertionEnds
pub mod InsertionPuts
pub mod InsertionWrites
pub mod LookupCounts
pub mod LookupFingerprints
pub mod LookupHomes
mod LookupMarks
pub mod LookupProbes
pub mod LookupReach
mod LookupSkips
pub mod LookupTallies
pub mod PurgeMiddle
pub mod PurgeRoom
pub mod PurgeSamples
pub mod PurgeSweeps
pub mod PurgeTurns
mod TableHashing
pub mod WalkEntries
pub mod WalkSlots
pub mod WalkSteps
pub mod WalkStride
