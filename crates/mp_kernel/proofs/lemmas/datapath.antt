pub mod WheelLemmas
pub mod LevelLemmas
pub mod FiringLemmas
pub mod NoDataLemmas
