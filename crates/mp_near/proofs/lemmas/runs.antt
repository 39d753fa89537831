pub mod RunLemmas
pub mod WorkLemmas
