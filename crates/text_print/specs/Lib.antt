-- The definitions that the contracts of `text_print` cite.
pub mod Put
pub mod Line
