-- What a ledger is and what the calls do to it.
pub mod Entries
pub mod Sorted
pub mod Neighbours
pub mod Ledger
pub mod Sequence
pub mod OfTree
