pub mod Exactly
pub mod OwnWords
