-- The limits of a question, and that its sets are sets of its variables and its rates are among those that it declares. A containment
-- has at most ten names, whatever the limits.
use Rattle.std.specs.Prelude.{◌≡◌, ℕ, ◌<◌, ◌≤◌, ◌^◌, List, ◌++◌, length, All, eqb}
use Rattle.std.specs.List.{IsDistinct}
use Rattle.it_syntax.specs.NamesViews.{NamesView}
use Rattle.it_syntax.specs.Givens.{IsRelationOf, IsGivenOf}
use Rattle.it_question.specs.QuestionLimits.{most_auxiliaries, most_lines, most_names, names_within}
use Rattle.it_question.specs.OwnLines.{OwnLinesView, RegionView}
use Rattle.it_question.specs.Questions.{VerbView, Prove, Eliminate, Contain, BodyView}
use Rattle.it_question.specs.declared.sizes.FileLimits.{FileLimits}
use Rattle.it_space.specs.Spaces.{most_rates, most_variables}

-- at most 64 lines of each kind over the names of v, where no `given` line has a rate
pub record AreLinesOver (v : NamesView) (own : OwnLinesView) : Type 0 where
  pub few_givens : length own.givens ≤ most_lines
  pub few_rows : length own.rows ≤ most_lines
  pub givens : All (IsGivenOf (length v.variables)) own.givens
  pub rows : All (IsRelationOf (length v.variables) (length v.rates)) own.rows

-- a region of a question with these names: their variables, and after them at most four auxiliaries, `most_names` in all
pub record IsRegionOf (v : NamesView) (r : RegionView) : Type 0 where
  pub own : List (List ℕ)
  pub variables : r.names.variables ≡ v.variables ++ own
  pub rates : r.names.rates ≡ v.rates
  pub counted : r.auxiliaries ≡ length own
  pub few : length own ≤ most_auxiliaries
  pub few_variables : length r.names.variables ≤ most_names
  pub lines : AreLinesOver r.names r.lines

-- four sets of n variables
pub record IsTryOf (n : ℕ) (sets : List ℕ) : Type 0 where
  pub four : length sets ≡ 4
  pub within : All (λ s. s < 2 ^ n) sets

-- at least one of m rates, each once
pub record AreRatesOf (m : ℕ) (rates : List ℕ) : Type 0 where
  pub some : 1 ≤ length rates
  pub within : All (λ r. r < m) rates
  pub distinct : IsDistinct eqb rates

-- a verb over these names that is within the limits, with at most 64 `try` lines
abbrev pub IsVerbOver : NamesView → VerbView → Type 0
IsVerbOver v (Prove r) = IsRelationOf (length v.variables) (length v.rates) r
IsVerbOver v (Eliminate rates) = AreRatesOf (length v.rates) rates
IsVerbOver v (Contain first second tries) = IsRegionOf v first × IsRegionOf v second × (length tries ≤ most_lines) × All (IsTryOf (length first.names.variables)) tries

-- at least one variable, at most `most` variables, no more rates than a space has, and lines over them
pub record IsQuestionUpTo (most : ℕ) (q : BodyView) : Type 0 where
  pub some : 1 ≤ length q.names.variables
  pub few : length q.names.variables ≤ most
  pub few_rates : length q.names.rates ≤ most_rates
  pub lines : AreLinesOver q.names q.lines
  pub verb : IsVerbOver q.names q.verb

-- a question of any file: no more variables than a space has
abbrev pub IsQuestion : BodyView → Type 0
IsQuestion q = IsQuestionUpTo most_variables q

-- a question of a file with these limits
abbrev pub IsQuestionWithin : FileLimits → BodyView → Type 0
IsQuestionWithin limits q = IsQuestionUpTo (names_within limits) q
