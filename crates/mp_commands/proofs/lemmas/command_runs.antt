pub mod Names
pub mod InputLemmas
pub mod RunLemmas
pub mod ViewLemmas
pub mod CheckLemmas
