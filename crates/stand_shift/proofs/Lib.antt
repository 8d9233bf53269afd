-- What is proved in `stand_shift` beside its functions.
pub mod Runs
pub mod Filling
pub mod Telling
pub mod Written
