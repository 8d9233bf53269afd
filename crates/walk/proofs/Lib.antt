-- Laws of the walk.
pub mod Visits
