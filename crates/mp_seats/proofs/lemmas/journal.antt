pub mod MakingLemmas
pub mod JournalLemmas
