-- Laws of the rules over registers and words.
pub mod Taking
pub mod Judging
pub mod Aims
