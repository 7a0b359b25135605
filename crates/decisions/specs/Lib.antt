pub mod Decided
pub mod Grows
