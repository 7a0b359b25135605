mod RowsAhead
mod RowsFound
mod RowsKept
mod RowsLaid
mod RowsPages
mod RowsPushed
mod ListedRows
mod RowsWhole
pub mod TableFrames
