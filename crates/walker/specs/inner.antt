-- The steps of the walk, for contracts of inner functions only.
pub mod Steps
pub mod Walks
