pub mod Ranges
pub mod Events
pub mod Extremes
pub mod Trails
pub mod Measures
pub mod Waits
pub mod Hearing
pub mod TimingLaws
