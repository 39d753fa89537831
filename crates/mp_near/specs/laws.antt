pub mod Below
pub mod Picking
pub mod Regions
pub mod RegionRuns
pub mod RegionWork
pub mod RegionWorkSpans
