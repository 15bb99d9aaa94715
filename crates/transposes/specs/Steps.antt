-- What the contracts of private functions cite.
pub mod Sent
pub mod Outcome
pub mod Strides
pub mod Placed
