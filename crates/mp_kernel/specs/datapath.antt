pub mod Levels
pub mod LevelWheels
pub mod DataModules
pub mod DataFiring
