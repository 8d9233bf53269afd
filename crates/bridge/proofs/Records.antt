-- The walk to a key, and records posted, amended and dropped on words and on the tree.
pub mod Seeks
pub mod Free
pub mod Amends
pub mod Posts
pub mod Relinks
pub mod Swaps
pub mod Drops
pub mod Dropped
