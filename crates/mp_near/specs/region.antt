pub mod Given
pub mod Likeness
pub mod Picks
pub mod Regions
