pub mod Cuts
pub mod Replaced
