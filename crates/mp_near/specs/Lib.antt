pub mod Changes
pub mod laws
pub mod reach
pub mod region
