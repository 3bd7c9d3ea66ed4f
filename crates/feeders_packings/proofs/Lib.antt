pub mod TableFeeders
pub mod UnitAnswers
