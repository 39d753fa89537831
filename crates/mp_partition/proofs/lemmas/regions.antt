pub mod RegionLemmas
pub mod PartLemmas
pub mod DivisionLemmas
pub mod CrossingLemmas
