pub mod AnswerLemmas
pub mod TalkLemmas
