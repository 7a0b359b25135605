pub mod Covering
pub mod Dumping
pub mod Status
