-- What the parts of the soundness check promise, and what is known of a table that passed it.
pub mod Scan
