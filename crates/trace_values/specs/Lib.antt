pub mod Checked
pub mod Expansions
pub mod Laws
pub mod Names
pub mod Steps
pub mod View
