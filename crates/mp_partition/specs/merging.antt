pub mod PartRuns
