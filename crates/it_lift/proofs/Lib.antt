pub mod Validity
pub mod Differences
pub mod MoveLemmas
pub mod AddsUp
pub mod Directions
pub mod SumSteps
pub mod WaySteps
pub mod FallSteps
pub mod GeneratorLemmas
pub mod EmptySteps
pub mod AllSteps
pub mod StartSteps
pub mod Whole
pub mod ReadOf
pub mod Unmoved
mod Example
