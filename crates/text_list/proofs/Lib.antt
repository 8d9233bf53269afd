-- What is proved in `text_list` beside its functions.
pub mod Records
