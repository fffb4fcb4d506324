pub mod Places
pub mod Rowed
pub mod Lengths
