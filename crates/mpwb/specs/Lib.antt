pub mod CommandTexts
pub mod CommandRuns
pub mod InputFiles
