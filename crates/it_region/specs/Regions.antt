-- Regions, by the meaning of their lines, and what it means that one lies in another.
use Rattle.std.specs.Prelude.{ℕ, ℤ, length}
use Rattle.it_polymatroid.specs.Polymatroid.{IsPolymatroid}
use Rattle.it_question.specs.OwnLines.{OwnLinesView, RegionView}
use Rattle.it_question.specs.Questions.{BodyView}
use Rattle.it_canon.specs.Agreement.{AgreeOnCommon}
use Rattle.it_canon.specs.TrueLines.{AreTrueAt}
use Rattle.it_question.specs.ProblemLines.{lines_with}

-- entropies of the region's variables and values of the rates, as one map from coordinates, that meet all lines
pub record IsIn (own : OwnLinesView) (r : RegionView) (p : ℕ → ℤ) : Type 0 where
  pub polymatroid : IsPolymatroid (length r.names.variables) p
  pub lines_hold : AreTrueAt (length r.names.variables) p (lines_with own r)

-- a point of region b that agrees with a point of region a
pub record IsCounterpart (q : BodyView) (a b : RegionView) (p image : ℕ → ℤ) : Type 0 where
  pub is_in : IsIn q.lines b image
  pub agree : AgreeOnCommon (length q.names.variables) (length q.names.rates) (length a.names.variables) (length b.names.variables) p image

-- The first region lies in the second: each point of the first has a counterpart in the second.
abbrev pub LiesIn : BodyView → RegionView → RegionView → Type 0
LiesIn q a b = (p : ℕ → ℤ) → IsIn q.lines a p → (image : ℕ → ℤ) × IsCounterpart q a b p image
