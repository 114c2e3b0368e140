pub mod Lifts
pub mod Fits
pub mod Sums
pub mod LiftedCertificates
pub mod ProblemLifts
pub mod OfProblems
