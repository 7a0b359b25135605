pub mod Agreeing
pub mod Asked
mod BrokenOff
mod Checked
pub mod Failing
pub mod Fronts
pub mod Kept
pub mod Lined
pub mod Machines
mod OneLine
pub mod ReplayLemmas
mod Standing
mod ToldRuns
