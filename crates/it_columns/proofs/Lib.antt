pub mod Scales
pub mod Wholes
pub mod ScaleSteps
pub mod ColumnLemmas
