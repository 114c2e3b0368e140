-- Factors by two statements.
use Rattle.std.proofs.Common.{ℤ, ◌↔◌}
use Rattle.it_ratio.specs.BestViews.{BestView, Least, Never, Unbounded, Undecided}
use Rattle.it_ratio.specs.Truth.{IsTrueBest}

-- an answer that is true of factors by one statement is true by an equivalent one
pub true_of_same : (P Q : ℤ → ℤ → Type 0) (best : BestView) → ((a b : ℤ) → P a b ↔ Q a b) → IsTrueBest P best → IsTrueBest Q best
true_of_same P Q (Least num den proof values) same t = (t.0, (same num den).0 t.1, λ a b one holds. t.2 a b one ((same a b).1 holds))
true_of_same P Q (Never values) same t = λ a b one holds. t a b one ((same a b).1 holds)
true_of_same P Q (Unbounded num den proof below) same t = (t.0, λ a b one smaller. (same a b).0 (t.1 a b one smaller))
true_of_same P Q (Undecided cause) same t = tt
