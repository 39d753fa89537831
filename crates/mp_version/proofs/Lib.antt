pub mod ChunkLemmas
pub mod StoryLemmas
pub mod SameLemmas
pub mod PrefixLemmas
pub mod lemmas
