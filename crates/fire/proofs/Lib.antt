-- Laws of written words.
pub mod Planned
