pub mod Lines
pub mod Collected
pub mod Pictured
