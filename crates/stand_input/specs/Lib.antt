-- The definitions that the contracts of `stand_input` cite.
pub mod Input
