-- A key sought in a tree, a record hung and taken out: slots, order and records.
pub mod Keyed
pub mod Grown
pub mod Lowest
pub mod Bounds
