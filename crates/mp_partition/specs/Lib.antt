pub mod runs
pub mod regions
pub mod merging
