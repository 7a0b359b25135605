mod Plain
mod Sizes
mod Taken
mod Values
