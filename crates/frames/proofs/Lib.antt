pub mod Adding
pub mod Cuts
pub mod Inverse
pub mod Back
