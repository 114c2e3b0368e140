pub mod Items
pub mod Places
pub mod Stretches
pub mod Quotients
pub mod Divisions
pub mod Bounds
