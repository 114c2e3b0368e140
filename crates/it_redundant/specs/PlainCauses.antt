-- Causes of plain elimination, which goes on past a cause: its lists are over numbers without bounds.
use Rattle.std.specs.Prelude.{◌≡◌, ℕ, ◌+◌, ◌^◌, ◌<◌, List, ◌∷◌, ◌++◌, length, map}
use Rattle.it_space.specs.Answers.{CertificateView}
use Rattle.it_problems.specs.Problems.{ProblemView}
use Rattle.it_space.specs.Rows.{Terms}
use Rattle.it_eliminate.specs.Elimination.{PairsFit, ordered_rows, next_list, list_after}
use Rattle.it_prove.specs.declared.types.Effort.{Effort}
use Rattle.it_redundant.specs.Reduction.{NeedView}
use Rattle.it_redundant.specs.ReducedElimination.{ProjectedView, Region, Rows, Wide, ReducedEnds}

-- plain elimination of rates from `start` comes to a rate with these rows; rate r is at coordinate `base` + r
pub record ComesTo (base : ℕ) (start : List Terms) (rates : List ℕ) (rate : ℕ) (rows : List Terms) : Type 0 where
  pub before : List ℕ
  pub after : List ℕ
  pub rates_are : rates ≡ before ++ rate ∷ after
  pub rows_are : rows ≡ list_after (map (λ r. base + r) before) start

-- a cause is one of plain elimination at this rate: more than `most` rows after it, or a wide pair of the rows before it
abbrev pub IsPlainCause : ℕ → ℕ → List Terms → List ℕ → ProjectedView → Type 0
IsPlainCause base most start rates (Region kept dropped) = Unit {0}
IsPlainCause base most start rates (Rows rate) = (rows : List Terms) × ComesTo base start rates rate rows × (most < length (next_list (base + rate) rows))
IsPlainCause base most start rates (Wide rate) = (rows : List Terms) × ComesTo base start rates rate rows × (¬ (PairsFit (base + rate) rows))

-- if reduced elimination ends with a cause at a rate, plain elimination has the same cause at this rate
abbrev pub CausesArePlain : Type 0
CausesArePlain = (givens : ProblemView) (effort : Effort) (most : ℕ) (rows : List Terms) (last : List (Terms × NeedView)) (gone : List (Terms × CertificateView)) (rates : List ℕ) (end : ProjectedView)
    → ReducedEnds givens effort most rows last gone rates end → IsPlainCause (2 ^ givens.space.variables) most (ordered_rows rows) rates end
