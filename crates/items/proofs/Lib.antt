pub mod Refusals
pub mod First
pub mod Given
pub mod Selected
