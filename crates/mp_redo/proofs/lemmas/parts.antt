pub mod OkLemmas
pub mod DrivenLemmas
pub mod RemovalLemmas
pub mod DelayLemmas
pub mod OldPartLemmas
pub mod WholeLemmas
pub mod JoinLemmas
pub mod AllowedLemmas
