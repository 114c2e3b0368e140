pub mod Reduction
pub mod ReducedElimination
pub mod Theorems
pub mod PlainCauses
pub mod ReductionSteps
pub mod ProjectionSteps
