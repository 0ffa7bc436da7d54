pub mod CsvBoth
pub mod CsvFields
pub mod CsvJoined
pub mod CsvReadBack
pub mod CsvRecords
pub mod CsvRuns
pub mod CsvWalk
pub mod Delimited
pub mod Digits
pub mod ItemsOfRecords
pub mod LastColumns
pub mod MadeItems
mod PairMarks
pub mod ReadBack
pub mod StringBuffers
pub mod Tails
