-- What is proved in `text_print` beside its functions.
pub mod Laid
pub mod Kept
