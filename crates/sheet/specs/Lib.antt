pub mod Lines
pub mod Waiting
pub mod Steps
pub mod Sent
pub mod Run
