pub mod ChangeLaws
pub mod Changes
