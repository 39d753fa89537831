pub mod StateLists
pub mod Checkpoints
pub mod Outcomes
pub mod Runs
pub mod Marks
pub mod KeptStates
pub mod Replacing
