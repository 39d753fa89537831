pub mod bits
pub mod units
pub mod run
