-- The statements of the paper, marked examples, and that the numbers matter.
pub mod Paper
pub mod Marked
pub mod Sharp
