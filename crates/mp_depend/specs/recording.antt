pub mod Overlays
pub mod Keeping
pub mod Live
pub mod Opened
pub mod Leaving
pub mod Endings
pub mod Recorders
