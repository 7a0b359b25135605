mod Hexadecimal
pub mod Saying
