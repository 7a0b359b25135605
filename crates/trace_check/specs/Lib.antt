pub mod Checks
pub mod Expectations
pub mod Laws
pub mod Misses
pub mod Records
pub mod Runs
pub mod Shown
pub mod View
