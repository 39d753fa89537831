pub mod EventLemmas
pub mod ChainLemmas
pub mod OrderLemmas
pub mod ShareLemmas
pub mod AboveLemmas
pub mod AboveSumLemmas
pub mod WhyLemmas
