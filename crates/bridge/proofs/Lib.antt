-- The laws of words and trees, from the ground up.
pub mod Links
pub mod Firing
pub mod Resting
pub mod Records
