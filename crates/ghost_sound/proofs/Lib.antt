pub mod HeldOnce
pub mod LegalMaps
pub mod Loops
pub mod SharedFrames
pub mod States
pub mod Telling
pub mod TreeRuns
