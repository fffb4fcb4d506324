pub mod Journals
pub mod Records
