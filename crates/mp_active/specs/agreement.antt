pub mod Sleeping
pub mod Sources
pub mod Reading
pub mod Resting
