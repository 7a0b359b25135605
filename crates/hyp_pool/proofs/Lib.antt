pub mod Given
pub mod Counts
pub mod Order
pub mod Views
pub mod Pools
