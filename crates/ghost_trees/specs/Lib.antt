pub mod Apart
pub mod InOrder
pub mod Joins
pub mod KeptTrees
pub mod Parts
pub mod Pools
pub mod Small
pub mod Trees
