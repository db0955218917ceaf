pub mod GroupBy
pub mod Grouper
pub mod History
