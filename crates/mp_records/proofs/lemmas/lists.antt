pub mod CutLemmas
pub mod ReplacingLemmas
