-- Firings on trees, over a side and at any place, and what they keep.
pub mod Sides
pub mod Steps
pub mod Guards
pub mod Place
pub mod Moves
pub mod Keeps
pub mod Order
