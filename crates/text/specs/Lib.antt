pub mod Refusals
pub mod Decimal
pub mod Digits
pub mod Numbers
