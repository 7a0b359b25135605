pub mod Advance
pub mod Counts
pub mod Laws
pub mod OwnerRows
pub mod Parts
pub mod Runs
pub mod Targets
pub mod View
