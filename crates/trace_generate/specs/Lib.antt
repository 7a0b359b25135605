pub mod Chance
pub mod Lines
pub mod Machine
pub mod Made
pub mod Reading
pub mod Suggested
pub mod Walks
