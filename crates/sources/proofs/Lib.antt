mod RangeLemmas
pub mod FrameLemmas
mod CauseLemmas
