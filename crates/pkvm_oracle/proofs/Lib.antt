pub mod CheckedStates
mod TestedStates
mod TheWord
mod OneAnswer
