pub mod Blanks
pub mod Lasts
pub mod Refusals
pub mod Sames
