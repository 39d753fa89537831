pub mod Outgoing
pub mod Places
pub mod InitialBlocks
pub mod Numbers
pub mod StreamBytes
pub mod StreamFaults
pub mod TakeErrors
pub mod WriteErrors
