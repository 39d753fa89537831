pub mod Revisions
pub mod Stays
pub mod Work
pub mod WorkSpans
pub mod Merges
