pub mod Holding
pub mod InputSets
pub mod Laws
pub mod sets
