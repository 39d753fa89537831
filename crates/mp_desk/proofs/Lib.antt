pub mod RunLemmas
pub mod RefusalLemmas
pub mod KeeperLemmas
pub mod StaffLemmas
