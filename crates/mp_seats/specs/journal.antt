pub mod Journals
pub mod Scripts
