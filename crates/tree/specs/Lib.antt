-- What the laws of trees speak of, besides the definitions of `scope`.
pub mod Weight
pub mod Rewrite
pub mod Measure
pub mod Step
pub mod Place
pub mod Shape
pub mod Variant
pub mod Seek
pub mod Without
pub mod Between
