pub mod Leaves
pub mod Pairs
pub mod Share
