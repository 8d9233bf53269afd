-- The definitions that the contracts of `text_list` cite.
pub mod List
