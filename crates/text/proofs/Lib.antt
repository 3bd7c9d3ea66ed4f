pub mod Decimal
pub mod Numbers
pub mod Worked
