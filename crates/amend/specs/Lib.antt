-- What the plan of an amendment is good for.
pub mod Planned
