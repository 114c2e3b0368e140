pub mod RightLemmas
pub mod TruthLemmas
pub mod UniqueLemmas
pub mod PrintLemmas
pub mod QuickLemmas
