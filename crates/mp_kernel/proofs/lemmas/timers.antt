pub mod TimerLemmas
pub mod SlackLemmas
