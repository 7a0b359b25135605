pub mod Filling
pub mod Going
pub mod Mapped
pub mod Meaning
pub mod Reported
