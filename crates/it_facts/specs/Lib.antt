pub mod Points
pub mod FactSteps
pub mod Settling
