pub mod WholeRows
pub mod Updates
pub mod ColumnTerms
pub mod Combinations
pub mod Widths
