pub mod Differences
pub mod Lists
pub mod Once
pub mod Read
pub mod Together
