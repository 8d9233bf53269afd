-- What the functions of `fire_act` ask and promise beside `scope`.
pub mod Wrote
