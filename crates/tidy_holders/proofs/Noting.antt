-- Links that are noted, and noted again where a firing moves them.
pub mod Links
pub mod Noted
pub mod Filling
pub mod Swaps
pub mod Places
pub mod Apart
pub mod Turned
pub mod Acts
pub mod Fired
