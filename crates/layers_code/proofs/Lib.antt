pub mod FirstRow
pub mod RowsAnswers
