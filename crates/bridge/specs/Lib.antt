-- What the laws of words and trees speak of.
pub mod Edit
pub mod Below
pub mod Alike
pub mod Leads
pub mod Fired
pub mod Planned
pub mod Settled
pub mod Due
