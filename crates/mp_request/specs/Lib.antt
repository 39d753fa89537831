pub mod AskedNames
pub mod Asking
pub mod Labels
pub mod WordErrors
pub mod explain
pub mod faults
