pub mod SleepingLemmas
pub mod SourceLemmas
pub mod ReadingLemmas
pub mod RecordLemmas
pub mod RestingLemmas
