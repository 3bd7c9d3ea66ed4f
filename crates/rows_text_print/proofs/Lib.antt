pub mod Printed
pub mod Service
pub mod RoundTrip
pub mod Lengths
pub mod Again
pub mod Worked
