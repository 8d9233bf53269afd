-- Laws that the functions of `drop` lean on.
pub mod Relinking
pub mod Written
