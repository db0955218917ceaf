pub mod Examples
pub mod Keys
