mod StepLemmas
mod WidthLemmas
mod SeatLemmas
pub mod lemmas
