pub mod Shape
pub mod Place
