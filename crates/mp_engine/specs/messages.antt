pub mod Messages
pub mod LineRules
pub mod Lines
pub mod Mails
