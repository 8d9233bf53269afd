-- What the calls for C write.
pub mod Five
