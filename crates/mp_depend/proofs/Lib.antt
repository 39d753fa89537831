pub mod TouchLemmas
pub mod MarkLemmas
pub mod HearingLemmas
pub mod DriverLemmas
pub mod SetAlikeLemmas
pub mod lemmas
