pub mod Booted
pub mod Carried
pub mod Stands
pub mod Steps
pub mod Uses
pub mod Wants
pub mod Whole
pub mod inner
