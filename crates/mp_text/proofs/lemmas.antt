pub mod lexing
pub mod lines
pub mod edit_lines
