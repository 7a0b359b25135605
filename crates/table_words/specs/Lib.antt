pub mod Profiles
pub mod Said
pub mod Decoding
pub mod Entries
