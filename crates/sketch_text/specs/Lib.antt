pub mod Columns
pub mod Csv
pub mod Decimals
pub mod RecordItems
pub mod Records
