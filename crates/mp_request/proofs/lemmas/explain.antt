pub mod ExplanationLemmas
pub mod TitleLemmas
