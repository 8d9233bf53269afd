-- Laws of the walks of the sums.
pub mod Walks
