pub mod PullingLemmas
pub mod RegionLemmas
pub mod RowLemmas
pub mod PairLemmas
pub mod TextLemmas
pub mod ObligationForms
pub mod ExistenceLemmas
