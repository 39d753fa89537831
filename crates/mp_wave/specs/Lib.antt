pub mod Waveform
pub mod Building
pub mod Faults
pub mod Differences
pub mod Laws
pub mod ToggleWaves
pub mod WaveChanges
