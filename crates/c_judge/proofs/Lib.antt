pub mod Callable
pub mod Said
pub mod OneFinding
pub mod OneReason
