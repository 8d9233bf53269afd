-- The demands, each with its proof.
pub mod Open
pub mod First
pub mod Second
pub mod Third
pub mod Demands
