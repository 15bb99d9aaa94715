pub mod Text
pub mod Numbers
pub mod Call
pub mod Steps
