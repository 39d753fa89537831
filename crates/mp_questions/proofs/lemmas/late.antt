pub mod SourceLemmas
pub mod PlaceLemmas
pub mod LastLemmas
pub mod SearchLemmas
pub mod BundleLemmas
pub mod MergeLemmas
pub mod ListLemmas
