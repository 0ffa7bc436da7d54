pub mod Prefilters
pub mod Groups
pub mod Admissions
pub mod Takedowns
