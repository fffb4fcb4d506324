pub mod Limits
pub mod Drafting
pub mod Table
pub mod Rules
