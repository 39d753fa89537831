pub mod WireSets
pub mod Reaching
pub mod Periods
pub mod RunTimes
pub mod Cycles
pub mod SteadyLines
