pub mod Passed
pub mod Roots
pub mod OneAnswer
pub mod Along
pub mod Without
pub mod FromRoot
pub mod Own
pub mod Lists
