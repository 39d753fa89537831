pub mod OnceLemmas
pub mod timing
pub mod causes
pub mod late
