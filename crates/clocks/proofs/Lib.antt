pub mod Covering
pub mod Tests
