pub mod Tee
pub mod History
