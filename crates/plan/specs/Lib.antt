pub mod Seam
pub mod Bays
pub mod Pass
pub mod Account
pub mod Columns
pub mod Text
pub mod Outcome
