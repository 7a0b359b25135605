pub mod Changed
pub mod Heads
pub mod Labels
pub mod Laws
pub mod Lists
pub mod Texts
pub mod Together
pub mod Told
