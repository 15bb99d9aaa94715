pub mod Blocks
pub mod Into
pub mod Agreeing
pub mod Heights
pub mod Joining
pub mod Catenating
