pub mod Columns
pub mod Courses
pub mod Laws
pub mod Pictures
pub mod Snapshots
pub mod Texts
