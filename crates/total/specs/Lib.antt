-- What the sums promise.
pub mod Adding
