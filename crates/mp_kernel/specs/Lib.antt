pub mod events
pub mod timers
pub mod datapath
