pub mod Array
pub mod Refusal
pub mod Terms
pub mod Primitives
pub mod Reply
pub mod Item
pub mod Steps
