-- Laws that the functions of `fire_guards` lean on.
pub mod Limit
