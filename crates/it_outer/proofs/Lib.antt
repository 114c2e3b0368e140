pub mod ExtremeLemmas
pub mod BoundLemmas
pub mod EndLemmas
pub mod OutcomeLemmas
pub mod HullLemmas
pub mod RoundLemmas
pub mod OrderLemmas
pub mod FrameLemmas
