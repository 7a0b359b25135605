pub mod Tickets
pub mod Ranged
pub mod Decided
pub mod Hands
pub mod GuestDecided
pub mod Slots
