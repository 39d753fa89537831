pub mod Sessions
pub mod LastWork
