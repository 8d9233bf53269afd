-- Laws of words that spell a tree, from what a passed test tells to the table of zeros.
pub mod Laws
pub mod Fits
pub mod Slots
pub mod Spell
pub mod Exact
pub mod Frame
pub mod Zeros
pub mod Opened
pub mod Wrote
pub mod Once
