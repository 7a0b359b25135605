-- The claims about the model.
pub mod Sound
pub mod Isolation
pub mod HeldFrames
pub mod RowLaws
pub mod Bounds
pub mod OrderLaws
pub mod TreeLaws
pub mod Laws
pub mod RunLaws
