-- What hangs at a link of a table, and changes below it.
pub mod Edited
pub mod Looks
pub mod Outside
pub mod Above
pub mod Ways
pub mod Held
pub mod Follows
pub mod Settles
