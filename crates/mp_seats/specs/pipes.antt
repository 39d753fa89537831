pub mod PipeTexts
pub mod PipeDoors
