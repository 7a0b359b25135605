pub mod Audited
pub mod Laws
pub mod Paths
pub mod View
