pub mod Misfits
pub mod inner
