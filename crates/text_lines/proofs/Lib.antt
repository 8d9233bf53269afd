-- What is proved in `text_lines` beside its functions.
pub mod Trying
pub mod Naming
