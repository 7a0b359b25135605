mod Alike
mod Cuts
mod Leading
mod Placed
mod Replayed
mod Told
