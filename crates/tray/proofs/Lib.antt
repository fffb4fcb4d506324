mod Front
pub mod Facts
