-- Demand 3: the worth falls, tidying cannot get stuck, and at rest no walk is long.
pub mod Falls
pub mod Rest
pub mod Numbered
pub mod Full
pub mod Sharp
pub mod Stuck
pub mod Tidied
