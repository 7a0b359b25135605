pub mod Flat
pub mod Parts
pub mod Rebuilt
pub mod Texts
