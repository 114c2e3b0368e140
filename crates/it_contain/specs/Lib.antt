pub mod Shapes
pub mod Recents
pub mod Digits
pub mod Proposals
pub mod Search
pub mod SearchSteps
