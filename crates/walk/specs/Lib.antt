-- What the walk promises its callers.
pub mod Walked
