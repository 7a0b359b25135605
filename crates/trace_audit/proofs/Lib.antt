mod Enough
mod Poking
mod Replays
mod Seen
mod Setting
mod Told
