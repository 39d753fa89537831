mod Names
pub mod FormatLemmas
pub mod RecordBackLemmas
pub mod ReplayLemmas
pub mod RoundTripLemmas
pub mod StatementBackLemmas
pub mod TextBackLemmas
pub mod TextLemmas
pub mod WriteLemmas
pub mod ModuleBackLemmas
pub mod WrittenLineLemmas
pub mod SlotLemmas
pub mod StageLemmas
pub mod WireStageLemmas
pub mod OutputLemmas
pub mod ModuleStageLemmas
pub mod StimulusStageLemmas
pub mod BundleStageLemmas
pub mod SameRecordLemmas
mod PartLemmas
mod PictureLemmas
mod LineStartLemmas
mod GivenLemmas
pub mod lemmas
