-- Reduced elimination: elimination of rates that reduces the list after each.
use Rattle.std.specs.Prelude.{◌≡◌, ℕ, ◌^◌, List, [], ◌∷◌}
use Rattle.it_space.specs.Answers.{CertificateView}
use Rattle.it_problems.specs.Problems.{ProblemView}
use Rattle.it_space.specs.Rows.{Terms}
use Rattle.it_eliminate.specs.Elimination.{EliminatedView, EliminationEnds, ordered_rows}
use Rattle.it_eliminate.specs.Elimination as elimination
use Rattle.it_prove.specs.declared.types.Effort.{Effort}
use Rattle.it_redundant.specs.declared.types.Projected.{Projected}
use Rattle.it_redundant.specs.declared.types.Projected.TheVariants as ends
use Rattle.it_redundant.specs.Reduction.{NeedView, Reduces, dropped_view, kept_rows, kept_view}

-- the last rate's reduction: the rows that are kept, each with its need, and those that were dropped, each with its certificate; or a
-- rate after which there are too many rows, or at which a pair is wide
pub data ProjectedView : Type 0 where
  Region : (kept : List (Terms × NeedView)) (dropped : List (Terms × CertificateView)) → ProjectedView
  Rows : (rate : ℕ) → ProjectedView
  Wide : (rate : ℕ) → ProjectedView

-- an end of reduced elimination as contracts see it
abbrev pub projected_view : Projected → ProjectedView
projected_view (ends.Region reduced) = Region (kept_view reduced) (dropped_view reduced)
projected_view (ends.Rows rate) = Rows rate
projected_view (ends.Wide rate) = Wide rate

-- after a rate's step its list is reduced, and elimination goes on with the rows that are kept; a cause is the end
abbrev pub GoesOn : ProblemView → Effort → (List (Terms × NeedView) → List (Terms × CertificateView) → Type 0) → EliminatedView → ProjectedView → Type 0
GoesOn givens effort later (elimination.Region next) end = (kept : List (Terms × NeedView)) × (dropped : List (Terms × CertificateView)) × Reduces givens effort [] next kept dropped × later kept dropped
GoesOn givens effort later (elimination.Rows rate) end = end ≡ Rows rate
GoesOn givens effort later (elimination.Wide rate) end = end ≡ Wide rate

-- end is the result of reduced elimination of rates from rows, where `last` has the rows kept so far with their needs, and `gone` those
-- that the last reduction dropped; each rate's step begins with the rows in order, and may leave at most `most` before their reduction
abbrev pub ReducedEnds : ProblemView → Effort → ℕ → List Terms → List (Terms × NeedView) → List (Terms × CertificateView) → List ℕ → ProjectedView → Type 0
ReducedEnds givens effort most rows last gone [] end = end ≡ Region last gone
ReducedEnds givens effort most rows last gone (r ∷ rs) end = (step : EliminatedView) × EliminationEnds (2 ^ givens.space.variables) most (ordered_rows rows) (r ∷ []) step
    × GoesOn givens effort (λ kept dropped. ReducedEnds givens effort most (kept_rows kept) kept dropped rs end) step end
