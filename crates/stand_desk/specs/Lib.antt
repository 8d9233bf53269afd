-- The definitions that the contracts of `stand_desk` cite.
pub mod Step
pub mod Desk
