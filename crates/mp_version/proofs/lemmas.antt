pub mod publication
