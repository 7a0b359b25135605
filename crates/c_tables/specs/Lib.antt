pub mod ByFrames
pub mod Given
pub mod Laid
pub mod Reached
pub mod Laws
pub mod Walks
