pub mod CallsNamed
pub mod Equality
pub mod StepsMade
