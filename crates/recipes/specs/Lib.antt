pub mod Answers
pub mod Lists
pub mod RuleError
pub mod Subsets
