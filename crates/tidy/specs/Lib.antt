-- What the functions of `tidy` cite beside `scope`.
pub mod Reviewed
pub mod Coming
pub mod Firing
pub mod Run
