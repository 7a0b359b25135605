pub mod RowsLaid
pub mod ListedRows
