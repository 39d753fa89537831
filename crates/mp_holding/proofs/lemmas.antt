pub mod sets
