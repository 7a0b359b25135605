pub mod inner
pub mod Asked
pub mod Freely
pub mod Laws
pub mod PoolByRows
