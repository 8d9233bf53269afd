-- The mark bits as numbers.
pub mod Marks
