pub mod KeepLemmas
pub mod OpenedLemmas
pub mod JoinLemmas
pub mod JoinWorkLemmas
pub mod LeaveLemmas
pub mod FirstLemmas
pub mod EndLemmas
pub mod HistoryLemmas
