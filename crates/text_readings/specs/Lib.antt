-- The printed line of a command.
pub mod Printed
