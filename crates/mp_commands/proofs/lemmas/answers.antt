pub mod Names
pub mod EditAnswerLemmas
