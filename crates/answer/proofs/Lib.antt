pub mod Exits
pub mod Axes
pub mod Order
pub mod Lent
pub mod Early
pub mod Over
pub mod Moved
