pub mod Firsts
pub mod Guests
pub mod OneAnswer
