pub mod ItemLemmas
pub mod WaveJsonLemmas
pub mod WordWaveLemmas
