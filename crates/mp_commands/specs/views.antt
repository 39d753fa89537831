pub mod Outputs
pub mod AskedWires
pub mod Pictures
pub mod Chains
pub mod CausePictures
pub mod Checks
pub mod Measured
pub mod Views
