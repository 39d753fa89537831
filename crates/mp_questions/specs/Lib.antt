pub mod Once
pub mod timing
pub mod causes
pub mod late
