pub mod Names
pub mod RowSteps
pub mod Pricing
pub mod Usable
pub mod NarrowSteps
