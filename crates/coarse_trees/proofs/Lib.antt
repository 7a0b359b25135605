pub mod Lists
pub mod OneWord
pub mod Least
pub mod Stays
