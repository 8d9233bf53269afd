-- Laws that the functions of `rank` lean on.
pub mod Pick
pub mod Seeking
