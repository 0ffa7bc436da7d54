pub mod Newest
pub mod Fresh
pub mod Sizes
pub mod State
pub mod Histories
pub mod Stands
pub mod Steps
pub mod Merging
pub mod Reports
pub mod Laws
pub mod Calls
-- names of lower crates that crates above this one use
pub use Rattle.sketch_base.specs.Errors
