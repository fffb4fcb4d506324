pub mod Cuts
pub mod Faulty
pub mod Once
pub mod Texts
