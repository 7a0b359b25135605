pub mod Checked
pub mod Laws
pub mod Told
pub mod View
pub mod Watched
pub mod Watches
