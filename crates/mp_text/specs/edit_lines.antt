pub mod EditLines
pub mod ReadBack
