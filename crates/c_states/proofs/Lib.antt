mod ApartLists
mod FilledLists
pub mod FilledStates
mod Generations
mod KnownLists
mod NoClash
pub mod OneMore
mod Telling
mod ToldKnown
mod ToldStates
pub mod NoRefusal
mod OneAnswer
pub mod OneReason
