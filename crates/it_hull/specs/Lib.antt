pub mod Hulls
pub mod Rays
pub mod Constants
pub mod Theorems
pub mod Places
pub mod KeptRates
