pub mod Held
pub mod Joined
pub mod Leading
pub mod Listed
