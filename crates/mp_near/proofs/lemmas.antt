pub mod laws
pub mod reach
pub mod region
pub mod runs
