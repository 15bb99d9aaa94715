pub mod Part
pub mod Sister
