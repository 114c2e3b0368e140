pub mod BestViews
pub mod Sides
pub mod Truth
