pub mod Agreeing
pub mod Past
