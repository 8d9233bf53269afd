-- Laws of the weight.
pub mod Weight
pub mod Under
