pub mod Polymatroid
pub mod Elementals
pub mod Certificates
pub mod Tables
pub mod Substitutions
pub mod TablePairs
