pub mod Beside
pub mod Blame
pub mod Columns
pub mod Forms
pub mod Laws
pub mod Names
pub mod Spots
pub mod Wanted
