pub mod Pieces
pub mod CoreFile
pub mod Opened
pub mod Pages
