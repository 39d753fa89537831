pub mod work
pub mod recording
