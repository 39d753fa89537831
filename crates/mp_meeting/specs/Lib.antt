pub mod Fates
pub mod Sittings
pub mod Seats
pub mod Meetings
pub mod MeetingFaults
