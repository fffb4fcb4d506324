pub mod Listed
mod Filling
