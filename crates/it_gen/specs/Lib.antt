pub mod Draws
pub mod GeneratedFiles
