mod Names
pub mod TimeLemmas
pub mod AheadLemmas
pub mod BundleLemmas
pub mod WaveLemmas
pub mod ModuleLemmas
pub mod SortedLemmas
pub mod MergeLemmas
pub mod ShareLemmas
