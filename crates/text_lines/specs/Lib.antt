-- The definitions that the contracts of `text_lines` cite.
pub mod Form
pub mod Shape
