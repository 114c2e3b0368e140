pub mod Elimination
pub mod Projections
pub mod Views
pub mod Gathering
pub mod Laws
pub mod RowLines
