-- The worth, what it is at most, and that every firing lowers it.
pub mod Sums
pub mod Weight
pub mod Bound
pub mod Weigh
pub mod Falls
pub mod Rotate
pub mod Apart
pub mod Tilt
pub mod Fall
pub mod Variant
pub mod Covered
