-- Definitions for laws and contracts between the crates; the claims don't depend on them.
pub mod Answers
pub mod ChangeLaws
pub mod ConditionChanges
pub mod Conditions
pub mod Held
pub mod PoolOrder
pub mod Rely
pub mod RoomLaws
pub mod RowChanges
