pub mod Laws
pub mod Pools
