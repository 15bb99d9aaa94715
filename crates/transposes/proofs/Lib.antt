pub mod Placing
pub mod Walking
pub mod Choosing
pub mod Calls
pub mod Passing
pub mod Offsets
