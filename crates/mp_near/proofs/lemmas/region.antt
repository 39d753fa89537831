pub mod GivenLemmas
pub mod LikeLemmas
pub mod PickLemmas
