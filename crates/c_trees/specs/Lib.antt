pub mod Roots
pub mod Entries
pub mod Trees
pub mod Given
pub mod Laws
