pub mod AskedLemmas
pub mod BoundLemmas
pub mod FrameLemmas
