-- What the functions of the agenda promise.
pub mod Agenda
