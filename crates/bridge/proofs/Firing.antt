-- A firing on words is that on the tree: at a link, along a way, on a sound table, by its raw numbers.
pub mod Turns
pub mod Twice
pub mod Aims
pub mod Along
pub mod Fires
pub mod Calls
