pub mod PointLemmas
pub mod FactTexts
