pub mod Faults
pub mod Laws
pub mod Stages
pub mod Tickets
