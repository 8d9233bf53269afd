-- What is said of lent words: how many, with a good header, sound.
pub mod Ready
pub mod Whole
