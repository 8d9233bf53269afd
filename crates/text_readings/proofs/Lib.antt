-- Reading what was printed: the theorems on commands and their lines.
pub mod Back
pub mod Only
pub mod Told
pub mod FieldsBack
pub mod FieldsOnly
pub mod Tables
pub mod RoundTrip
pub mod Readable
