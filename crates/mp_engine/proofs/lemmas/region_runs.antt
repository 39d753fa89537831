pub mod StateHistoryLemmas
pub mod RegionRunLemmas
pub mod RestLemmas
pub mod OwnStimuliLemmas
