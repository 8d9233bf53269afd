-- The definitions that the contracts of `stand_shift` cite.
pub mod Run
