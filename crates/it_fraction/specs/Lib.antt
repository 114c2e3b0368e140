pub mod Fits
pub mod Sign
