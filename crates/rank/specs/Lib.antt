-- What the walk for a rank says.
pub mod Ranks
