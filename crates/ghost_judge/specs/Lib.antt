pub mod Apart
pub mod Audits
pub mod Judgements
pub mod OneAnswer
pub mod PartDifferences
pub mod TextRows
pub mod Texts
pub mod inner
