pub mod CountingLemmas
pub mod EntropyLemmas
pub mod ExistenceLemmas
