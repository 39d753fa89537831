pub mod CountLemmas
pub mod MessageLemmas
pub mod TellingLemmas
pub mod LineLemmas
pub mod LineRuleLemmas
