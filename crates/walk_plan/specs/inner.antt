-- The counts of the walk, for contracts of inner functions only.
pub mod Needs
pub mod Ranks
pub mod Looks
