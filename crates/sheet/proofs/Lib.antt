pub mod Search
pub mod Waits
pub mod Sent
pub mod Cut
pub mod Run
