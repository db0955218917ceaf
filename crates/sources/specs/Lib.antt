pub mod Block
pub mod Cause
pub mod Frame
pub mod Range
pub mod Records
