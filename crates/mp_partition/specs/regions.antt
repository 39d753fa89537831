pub mod Readers
pub mod Regions
pub mod Divisions
