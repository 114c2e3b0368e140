pub mod DivisorLemmas
pub mod Results
pub mod Signs
pub mod SumLemmas
pub mod ProductLemmas
pub mod ZeroLemmas
pub mod WholeParts
pub mod Equality
