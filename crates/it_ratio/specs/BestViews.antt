-- Answers about factors, as contracts see them.
use Rattle.std.specs.Prelude.{ℤ, List}
use Rattle.it_space.specs.Answers.{CertificateView, certificate_view}
use Rattle.it_ratio.specs.declared.types.Best.{Best}
use Rattle.it_ratio.specs.declared.types.Best.TheVariants as answers
use Rattle.it_ratio.specs.declared.types.BestCause.{BestCause}

-- an answer as contracts see it
pub data BestView : Type 0 where
  Least : (num den : ℤ) → (proof : CertificateView) → (values : List ℤ) → BestView
  Never : (values : List ℤ) → BestView
  Unbounded : (num den : ℤ) → (proof below : CertificateView) → BestView
  Undecided : (cause : BestCause) → BestView

-- the contracts' view of an answer
abbrev pub best_view : Best → BestView
best_view (answers.Least num den proof point) = Least num den (certificate_view proof) point
best_view (answers.Never point) = Never point
best_view (answers.Unbounded num den proof below) = Unbounded num den (certificate_view proof) (certificate_view below)
best_view (answers.Undecided cause) = Undecided cause
