-- Trees at rest: balance and height.
pub mod Quiet
pub mod Height
