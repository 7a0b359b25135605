pub mod Forms
pub mod Made
pub mod Writing
