pub mod Carried
pub mod Causes
pub mod Explained
pub mod Laws
pub mod Looks
pub mod Texts
pub mod View
