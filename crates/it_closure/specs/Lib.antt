pub mod Closures
pub mod DependencesViews
pub mod Collapse
pub mod Placings
pub mod Reading
pub mod ReadLaws
pub mod Coordinates
pub mod Sizes
