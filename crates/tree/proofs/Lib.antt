-- The laws of trees, from the ground up.
pub mod Firing
pub mod Worth
pub mod Rest
pub mod Shown
pub mod Keys
