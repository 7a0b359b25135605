pub mod Kept
pub mod Laws
pub mod Layers
pub mod Orders
