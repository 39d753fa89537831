pub mod FateLemmas
pub mod SittingLemmas
pub mod SeatLemmas
pub mod MeetLemmas
