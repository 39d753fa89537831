pub mod CursorLemmas
pub mod FindingLemmas
pub mod SpanLemmas
pub mod JoinLemmas
pub mod OutputLemmas
pub mod DelayLemmas
pub mod LateLemmas
