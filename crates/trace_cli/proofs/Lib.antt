mod Checked
mod Expanded
mod Explained
mod Greatest
mod Made
mod Outcomes
mod Together
