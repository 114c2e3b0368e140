pub mod Division
pub mod Decimals
pub mod Gcd
pub mod Limit
pub mod Rings
pub mod Laws
