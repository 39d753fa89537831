pub mod Marks
pub mod Named
pub mod Numbers
pub mod Reach
