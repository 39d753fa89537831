pub mod response
