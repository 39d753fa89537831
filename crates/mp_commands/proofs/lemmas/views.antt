pub mod AskedWireLemmas
pub mod PictureLemmas
pub mod OutputLemmas
