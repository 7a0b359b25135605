pub mod inner
pub mod Laws
pub mod Sound
pub mod Texts
