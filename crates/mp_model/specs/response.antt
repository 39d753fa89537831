pub mod Pieces
pub mod Span
pub mod Cursors
pub mod Joins
pub mod Delays
