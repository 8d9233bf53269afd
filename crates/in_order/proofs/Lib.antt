-- Laws of the walk in key order.
pub mod Walks
pub mod Slots
