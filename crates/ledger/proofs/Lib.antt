-- Laws of lists of records.
pub mod Lists
pub mod Entries
pub mod Sorted
pub mod Passing
pub mod Neighbours
