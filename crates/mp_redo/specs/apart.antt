pub mod Parts
pub mod PartLevels
pub mod PartWork
pub mod PartWorkSpans
pub mod RunSlots
pub mod PartRuns
