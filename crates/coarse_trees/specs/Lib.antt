pub mod Coarsest
pub mod Laws
