pub mod Laws
pub mod Made
pub mod Named
pub mod Rows
pub mod Texts
pub mod Words
