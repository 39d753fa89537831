pub mod SetLemmas
pub mod FunctionLemmas
pub mod CallLemmas
pub mod ArbiterLemmas
pub mod HoldingLemmas
pub mod lemmas
