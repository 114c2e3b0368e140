pub mod Columns
pub mod Scaling
