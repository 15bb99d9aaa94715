pub mod Vector
pub mod Calls
pub mod Cycling
pub mod Over
