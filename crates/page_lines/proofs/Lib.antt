pub mod ByteFields
pub mod Part
