-- Laws of tidying.
pub mod Order
pub mod Counting
pub mod Reviewing
pub mod Scanning
pub mod Firing
pub mod Going
pub mod Outcome
