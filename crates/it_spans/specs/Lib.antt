pub mod Drops
pub mod Spans
pub mod Verdicts
pub mod Theorems
pub mod HullRows
