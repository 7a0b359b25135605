pub mod Changes
pub mod Hands
pub mod inner
