pub mod Chronicles
pub mod Knowing
