pub mod Touched
pub mod Drivers
pub mod SetAlike
pub mod OldWaves
pub mod Hearing
pub mod work
pub mod recording
