pub mod Machines
pub mod Judged
pub mod Inits
pub mod Ends
pub mod Laws
pub mod Rooms
