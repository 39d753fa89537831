pub mod PartLemmas
pub mod PartLevelLemmas
pub mod SameModuleLemmas
pub mod PartWorkLemmas
pub mod JoinLemmas
pub mod RunSlotLemmas
pub mod PartRunLemmas
