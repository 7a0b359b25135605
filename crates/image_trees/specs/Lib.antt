pub mod KeptPages
pub mod Kept
pub mod InImage
pub mod Stops
pub mod Unwalked
pub mod Trees
pub mod Records
