pub mod Asked
pub mod Bounds
pub mod Frames
pub mod Theorems
