pub mod Answers
pub mod Conversations
pub mod TalkFaults
