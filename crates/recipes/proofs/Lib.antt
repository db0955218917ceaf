pub mod AnswerLemmas
pub mod CallLemmas
pub mod ListLemmas
pub mod SliceLemmas
pub mod ChainLemmas
pub mod AlikeLemmas
pub mod SubsetLemmas
pub mod RunLemmas
