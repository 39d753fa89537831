pub mod TextLines
pub mod Spans
pub mod Places
pub mod WordPlaces
pub mod EditPlaces
pub mod Nearest
pub mod Faults
pub mod FaultTexts
