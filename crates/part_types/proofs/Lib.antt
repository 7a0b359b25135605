pub mod Planned
pub mod Pools
pub mod Shares
