pub mod Found
pub mod Headers
