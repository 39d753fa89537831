pub mod storage
pub mod automata
