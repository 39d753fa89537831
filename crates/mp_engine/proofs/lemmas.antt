pub mod region_runs
pub mod messages
