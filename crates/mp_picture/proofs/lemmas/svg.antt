pub mod WordLemmas
pub mod RowLemmas
pub mod ColumnLemmas
pub mod TextLemmas
pub mod BitRowLemmas
pub mod WordRowLemmas
pub mod MarkLemmas
