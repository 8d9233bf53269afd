-- The theorems on sound tables, from the tree's order to the verdict.
pub mod Along
pub mod Steps
pub mod Ends
