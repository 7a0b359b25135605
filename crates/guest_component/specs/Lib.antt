pub mod Own
pub mod Bodies
pub mod View
pub mod InHand
pub mod Changing
pub mod Plans
pub mod Wants
