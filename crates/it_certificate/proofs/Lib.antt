mod DigitLemmas
mod PairLemmas
mod ItemLemmas
mod WithinLemmas
pub mod RowLemmas
mod BackLemmas
pub mod ValueLemmas
mod ObligationLemmas
mod QuestionLemmas
pub mod SourceLemmas
pub mod SourceNumbers
pub mod ReportLemmas
pub mod OneLemmas
pub mod FitLemmas
pub mod FactorFits
pub mod CodeFits
pub mod OriginFits
mod RoundLemmas
mod OriginRound
mod RowsComputed
