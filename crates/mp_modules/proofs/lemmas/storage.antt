pub mod KindLemmas
pub mod RegLemmas
pub mod WidthLemmas
pub mod PartLemmas
