pub mod Ahead
pub mod Devices
pub mod Reading
