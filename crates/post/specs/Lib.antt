-- What the plan of a post is good for.
pub mod Planned
