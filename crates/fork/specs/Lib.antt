-- What a walk over both subtrees is asked, and what it says.
pub mod Hangs
pub mod Folds
