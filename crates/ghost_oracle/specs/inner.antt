pub mod Eights
pub mod Pending
pub mod Trees
pub mod Walking
