pub mod talk
pub mod hosting
pub mod journal
