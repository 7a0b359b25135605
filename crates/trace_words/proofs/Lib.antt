mod Digits
mod Kept
