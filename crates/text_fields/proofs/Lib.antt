-- What is proved of words, numbers and fields beside the functions.
pub mod Digits
pub mod Numbers
pub mod Words
pub mod Reading
pub mod Lines
pub mod Decimal
