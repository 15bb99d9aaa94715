pub mod Tested
pub mod Rows
pub mod Calls
pub mod Selecting
