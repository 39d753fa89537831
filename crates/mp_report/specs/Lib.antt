pub mod Names
pub mod Places
pub mod Ahead
pub mod Bundles
pub mod Lines
pub mod Clauses
