-- Laws on the definitions that `words` computes.
pub mod Seeking
