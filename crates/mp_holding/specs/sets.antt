pub mod Marks
pub mod ClosedSets
pub mod Laws
pub mod Needs
pub mod Readers
pub mod Elimination
