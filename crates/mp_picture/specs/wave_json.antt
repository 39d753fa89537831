pub mod Waves
pub mod Signals
pub mod WaveJson
pub mod Laws
