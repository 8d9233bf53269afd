-- The links as numbers, and what is noted of them.
pub mod Codes
pub mod Holds
pub mod Away
