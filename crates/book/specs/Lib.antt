pub mod Books
pub mod Examples
pub mod Limits
pub mod Newest
pub mod Shapes
