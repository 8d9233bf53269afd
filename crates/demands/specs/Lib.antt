-- What the theorems of the demands speak of, and the demands themselves.
pub mod Exactly
pub mod Listed
pub mod Ledgers
pub mod Sequence
pub mod Fires
pub mod Firing
pub mod Tidying
pub mod Short
pub mod Demands
