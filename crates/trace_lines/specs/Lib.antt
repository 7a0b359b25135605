pub mod Arguments
pub mod Asked
pub mod Calls
pub mod Places
pub mod Said
pub mod Settings
pub mod Texts
