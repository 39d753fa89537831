pub mod PlaceLemmas
pub mod StreamLemmas
pub mod LeftLemmas
pub mod OutLemmas
pub mod FlushLemmas
pub mod NumberLemmas
