pub mod KnownBytes
pub mod LineLemmas
mod Moved
mod Cut
pub mod LinesBack
