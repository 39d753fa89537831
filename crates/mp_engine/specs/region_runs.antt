pub mod StateHistories
pub mod RegionRuns
