-- Laws of the agenda.
pub mod Puts
pub mod Seeking
pub mod Zeros
