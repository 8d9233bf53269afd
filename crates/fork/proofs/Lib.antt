-- Laws of walks over both subtrees.
pub mod Down
pub mod Order
pub mod Folding
