pub mod excerpt
pub mod agreement
pub mod compare
pub mod steps
