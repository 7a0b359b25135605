pub mod Claims
pub mod Findings
pub mod Unborrowed
pub mod Laws
