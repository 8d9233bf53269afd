-- Laws that the functions of `gate` lean on.
pub mod Fitting
pub mod Carried
pub mod Tables
