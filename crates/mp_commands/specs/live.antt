pub mod SignedEdits
pub mod SeatReplies
pub mod TalkFaults
pub mod LiveDesks
