pub mod DataLevels
pub mod DataWaves
pub mod DataWheels
pub mod DataSeats
pub mod NetlistSimulations
pub mod Units
pub mod Ahead
