pub mod Laws
pub mod Numbers
pub mod Said
pub mod Steps
pub mod Written
