-- The tests of a slot as `gate` makes them.
pub mod Parts
pub mod Ends
pub mod Opens
pub mod AtSlot
