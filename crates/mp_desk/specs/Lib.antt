pub mod DeskSizes
pub mod Holders
pub mod Keepers
pub mod Worlds
