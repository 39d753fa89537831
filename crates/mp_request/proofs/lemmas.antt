pub mod explain
pub mod faults
