-- Laws that the functions of `post` lean on.
pub mod Hanging
pub mod Written
