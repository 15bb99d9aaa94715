pub mod Writing
pub mod Parts
pub mod Answers
pub mod Room
pub mod Paper
pub mod Pairs
pub mod Joined
