-- What a firing leaves: every test away from its nodes and the two holders above them.
pub mod Steady
pub mod Untouched
pub mod Elsewhere
pub mod Upward
pub mod DueNodes
pub mod AsBefore
