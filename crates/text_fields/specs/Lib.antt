-- The definitions that the contracts of `text_fields` cite.
pub mod Text
pub mod Decimal
pub mod Number
pub mod Read
