mod Answered
pub mod Trace
pub mod Below
pub mod RunLemmas
mod FaultLemmas
