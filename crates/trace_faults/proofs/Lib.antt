pub mod Before
pub mod Found
pub mod Places
