pub mod DropLemmas
pub mod SpanLemmas
pub mod VerdictLemmas
pub mod ExistenceLemmas
