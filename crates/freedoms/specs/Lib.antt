pub mod AnyTrees
pub mod Freedoms
pub mod Ample
pub mod Laws
pub mod OwnTables
pub mod Seen
