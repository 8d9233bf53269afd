-- Which rules are due on words and on the tree, in the stated order, and where none is.
pub mod Linked
pub mod Dues
pub mod Meets
pub mod Searches
pub mod Quiets
pub mod Rests
