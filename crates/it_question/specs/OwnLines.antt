-- The own lines of a question and of a region, as contracts compare them: each vector by the list of its items.
use Rattle.std.specs.Prelude.{ℕ, List, []}
use Rattle.it_syntax.specs.NamesViews.{NamesView}
use Rattle.it_syntax.specs.Meaning.{RelationView}
use Rattle.it_syntax.specs.Givens.{GivenView}

-- the constraints of `given` lines, and of `row` lines, in order
pub record OwnLinesView : Type 0 where
  pub givens : List GivenView
  pub rows : List RelationView

-- neither a `given` nor a `row` line
abbrev pub no_lines : OwnLinesView
no_lines = record { givens = []; rows = [] }

-- a region: the names of its variables and of the rates, the number of its auxiliaries, its own lines
pub record RegionView : Type 0 where
  pub names : NamesView
  pub auxiliaries : ℕ
  pub lines : OwnLinesView
