pub mod Found
pub mod Freedoms
pub mod Laws
pub mod Ready
pub mod Replies
pub mod Texts
