pub mod MarkLemmas
pub mod NameMarkLemmas
pub mod NamedLemmas
pub mod NumberLemmas
pub mod ReachLemmas
pub mod StandLemmas
