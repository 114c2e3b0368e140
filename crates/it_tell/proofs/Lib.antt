pub mod LineLemmas
pub mod PrintableLemmas
pub mod EndLemmas
pub mod DetailLemmas
pub mod LawLemmas
pub mod ProofLemmas
pub mod OrderLemmas
pub mod OwnLineLemmas
mod CodeLemmas
mod AlikeLemmas
mod ValueLemmas
