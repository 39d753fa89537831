pub mod JoinedLemmas
pub mod PieceLemmas
pub mod WholeWordLemmas
pub mod EditWordLemmas
pub mod ReadBackLemmas
pub mod BatchLemmas
pub mod SaidLemmas
pub mod AcceptedLemmas
