pub mod Cutting
pub mod Rows
pub mod Tables
pub mod Bridges
pub mod Building
pub mod Filling
pub mod Calls
