-- Laws that the functions of `fire_act` lean on.
pub mod Writes
pub mod Actions
pub mod Acting
