pub mod Steps
pub mod Refusals
pub mod Trace
pub mod Fault
pub mod CallError
pub mod Below
