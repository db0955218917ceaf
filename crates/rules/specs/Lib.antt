pub mod Predicate
pub mod Combined
pub mod Key
pub mod Joining
