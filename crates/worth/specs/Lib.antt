-- What a tree weighs, as one recursion.
pub mod Weight
pub mod Bearing
