-- Demand 1: accepted, or refused with a listed code and nothing written.
pub mod Refusals
pub mod FireRefusals
pub mod Listed
pub mod Before
