pub mod Names
pub mod NumberedLines
pub mod EditAnswers
pub mod WorkLines
pub mod Kept
pub mod ShortReplies
pub mod Answers
