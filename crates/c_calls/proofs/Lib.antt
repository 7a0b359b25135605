mod LinesJoined
mod Starts
mod StepsSaid
