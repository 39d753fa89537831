pub mod MultipleLemmas
pub mod MarkLemmas
pub mod StateListLemmas
pub mod KeepLemmas
pub mod OutcomeLemmas
pub mod SearchLemmas
