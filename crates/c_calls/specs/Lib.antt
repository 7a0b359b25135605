pub mod Boots
pub mod Laws
pub mod Lines
pub mod Steps
pub mod Suggests
pub mod Texts
