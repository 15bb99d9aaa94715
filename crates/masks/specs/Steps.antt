-- What the contracts of private functions cite.
pub mod Actions
pub mod Rows
