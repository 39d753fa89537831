pub mod apart
pub mod rerun
pub mod parts
