-- What is proved of the definitions by themselves: they compute the examples, and a promise leaves nothing open.
pub mod Bools
pub mod Script
pub mod Marked
pub mod Further
pub mod Refusals
pub mod Damage
pub mod Misses
pub mod Bites
pub mod Computed
pub mod Teeth
pub mod Errs
pub mod Firings
pub mod Determined
