-- What the walk in key order asks of a list, and what it leaves there.
pub mod Listed
