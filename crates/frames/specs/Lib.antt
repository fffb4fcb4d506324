pub mod Sizes
pub mod Bytes
pub mod Layout
pub mod Candidate
pub mod Answers
