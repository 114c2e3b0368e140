pub mod Weights
pub mod Closed
pub mod ClosedProblems
pub mod ProofViews
pub mod Steps
pub mod Reach
