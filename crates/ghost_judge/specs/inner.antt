pub mod Covered
pub mod Found
pub mod Parted
pub mod Pooled
pub mod Same
