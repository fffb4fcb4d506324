pub mod Limits
pub mod Grammar
pub mod Lines
pub mod Readers
