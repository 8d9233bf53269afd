-- Laws of the links that are noted.
pub mod Noting
pub mod Leaving
