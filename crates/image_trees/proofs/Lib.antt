pub mod Reading
pub mod SameTrees
pub mod Stated
pub mod Denied
