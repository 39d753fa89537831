pub mod ChainLemmas
pub mod AddingLemmas
pub mod KeepingLemmas
pub mod ShowingLemmas
