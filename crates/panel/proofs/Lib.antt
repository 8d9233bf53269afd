-- What all calls for C have in common.
pub mod Given
