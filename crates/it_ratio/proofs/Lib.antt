pub mod Orders
pub mod SameFactors
pub mod SideSteps
