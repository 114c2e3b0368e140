pub mod Outer
pub mod Extremes
pub mod Search
pub mod Bounds
pub mod Theorems
pub mod Rounds
