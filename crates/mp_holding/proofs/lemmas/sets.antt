pub mod ClosedLemmas
pub mod NeedLemmas
pub mod LeftLemmas
pub mod ReaderLemmas
