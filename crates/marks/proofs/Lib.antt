-- Laws of the mark bits.
pub mod Bits
pub mod Laws
pub mod Passing
