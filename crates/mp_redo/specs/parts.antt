pub mod Partitions
pub mod Changes
pub mod Redone
pub mod Drivers
pub mod Removals
