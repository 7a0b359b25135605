pub mod Alike
pub mod Carrying
pub mod Held
pub mod Leading
pub mod RuleWords
