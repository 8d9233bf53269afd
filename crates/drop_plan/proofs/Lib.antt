-- Laws that the functions of `drop_plan` lean on.
pub mod Hits
pub mod Descending
pub mod Plans
