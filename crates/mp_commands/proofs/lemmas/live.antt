pub mod SignedEditLemmas
