mod Names
mod ReplyLemmas
mod PlayLemmas
mod MadeAgainLemmas
mod DeskLemmas
pub mod lemmas
