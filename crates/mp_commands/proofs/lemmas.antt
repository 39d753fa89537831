pub mod views
pub mod answers
pub mod command_runs
pub mod live
