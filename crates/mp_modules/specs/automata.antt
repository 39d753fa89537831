pub mod Automata
pub mod Phases
pub mod BitModules
pub mod Reactions
pub mod AutomatonLaws
pub mod Codes
pub mod PortLevels
pub mod Transitions
