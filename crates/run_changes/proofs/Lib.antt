pub mod Pieces
pub mod GoesOn
