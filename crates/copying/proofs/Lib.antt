pub mod Steps
pub mod Runs
pub mod Blocks
pub mod Parts
pub mod Blockwise
pub mod Moves
pub mod Gathering
pub mod Gathered
