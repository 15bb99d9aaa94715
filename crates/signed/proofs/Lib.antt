pub mod Reading
pub mod Equal
pub mod Sign
pub mod Finding
