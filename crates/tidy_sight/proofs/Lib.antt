-- Laws of what the rules see.
pub mod Sights
pub mod Unlisted
