pub mod Pulling
pub mod Regions
pub mod Obligations
pub mod Pairs
pub mod PairSteps
pub mod Theorems
pub mod AnswerForms
