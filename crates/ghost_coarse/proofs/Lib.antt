pub mod Behind
pub mod Listing
pub mod Placed
pub mod Along
