pub mod Blocks
pub mod Frames
pub mod Gains
pub mod Guests
pub mod InHand
pub mod Pages
pub mod Same
