pub mod Chunks
pub mod Given
pub mod Incoming
