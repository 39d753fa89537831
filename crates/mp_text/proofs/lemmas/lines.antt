pub mod FeedLemmas
pub mod GivenLemmas
pub mod ReadingLemmas
