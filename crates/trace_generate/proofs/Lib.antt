mod Lines
mod Settled
mod Spelled
mod Walked
pub mod Spaces
pub mod Words
