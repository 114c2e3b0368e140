pub mod RowVerdicts
pub mod FactorVerdicts
pub mod BoundsVerdicts
pub mod LineVerdicts
pub mod Judging
pub mod Steps
pub mod FactorSteps
pub mod Meaning
