pub mod model
pub mod claims
pub mod rows
pub mod help
