pub mod Sizes
pub mod Places
pub mod Stretches
pub mod StretchesUpTo
pub mod Combinations
pub mod Divisors
pub mod Quotients
