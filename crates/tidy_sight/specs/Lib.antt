-- What the rules see at a slot, and whether any may be due there.
pub mod MayBeDue
pub mod Sight
