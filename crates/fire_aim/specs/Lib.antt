-- What the functions of `fire_aim` cite beside `scope`.
pub mod Aimed
