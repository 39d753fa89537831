pub mod Sources
pub mod Lateness
pub mod Searching
pub mod Lists
