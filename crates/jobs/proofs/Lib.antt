pub mod JobLemmas
pub mod AnswerLaws
