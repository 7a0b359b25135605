pub mod Audited
pub mod Found
pub mod Laws
pub mod Tables
pub mod Texts
