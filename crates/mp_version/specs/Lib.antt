pub mod Limits
pub mod Chunks
pub mod Stories
pub mod Steps
pub mod Versions
pub mod Extending
pub mod publication
