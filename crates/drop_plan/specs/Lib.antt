-- What the functions of `drop_plan` ask and promise beside `scope`.
pub mod Planned
