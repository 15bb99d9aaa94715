pub mod Calls
pub mod Rows
pub mod Into
pub mod Groups
