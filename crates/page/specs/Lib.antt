pub mod Field
pub mod Page
pub mod Asked
