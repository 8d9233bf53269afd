-- Demand 2: on a sound table as on a sorted list, firings by their guards, tidying in the stated order.
pub mod Entries
pub mod Answers
pub mod Ranks
pub mod Amending
pub mod Posting
pub mod Dropping
pub mod Exact
pub mod Firing
pub mod Due
pub mod Tidying
pub mod Order
pub mod Sequence
