pub mod Finding
pub mod Chaining
pub mod Entering
pub mod Calls
