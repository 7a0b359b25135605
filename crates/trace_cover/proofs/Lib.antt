pub mod Going
pub mod Legality
pub mod Once
pub mod Unlisted
