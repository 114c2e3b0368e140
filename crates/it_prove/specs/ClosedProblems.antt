-- Problems over closed sets, made once for runs about many targets under a problem and under those that begin with its generators.
use Rattle.std.specs.Prelude.{◌≡◌, ℕ, ◌<◌, ◌≤◌, List, [], ◌∷◌, length, take, map}
use Rattle.it_problems.specs.Problems.{ProblemView}
use Rattle.it_space.specs.Rows.{Terms, coefficient}
use Rattle.it_elemental.specs.Generators.{Generator, generators, generator_at}
use Rattle.it_closure.specs.declared.dependences.Dependence.{Dependence}
use Rattle.it_closure.specs.Collapse.{CollapseFits}
use Rattle.it_closure.specs.Reading.{dependences_of}
use Rattle.it_columns.specs.Columns.{columns}
use Rattle.it_prove.specs.Closed.{collapsed_generator, closed_places}
use Rattle.it_prove.specs.declared.closed.ClosedProblem.{ClosedProblem}

-- two lists of rows have the same coefficients, row for row
abbrev pub SameRows : List Terms → List Terms → Type 0
SameRows [] [] = Unit {0}
SameRows [] (s ∷ ss) = ⊥
SameRows (r ∷ rs) [] = ⊥
SameRows (r ∷ rs) (s ∷ ss) = ((c : ℕ) → coefficient r c ≡ coefficient s c) × SameRows rs ss

-- rows are the columns over closed sets of the first i generators, and the partial sums of their collapse are within the limit
pub record AreColumns (n : ℕ) (ds : List Dependence) (gs : List Generator) (i : ℕ) (rows : List Terms) : Type 0 where
  pub same : SameRows rows (columns (map (collapsed_generator n ds) (take i gs)))
  pub fits : (j : ℕ) → j < i → CollapseFits n ds (generator_at gs j).row

-- the dependences and the coordinates are those of the problem, and the columns those of some of its first generators
pub record IsClosedProblem (q : ProblemView) (c : ClosedProblem) : Type 0 where
  pub space : c.dependences.space ≡ q.space
  pub list : c.dependences.list ≡ dependences_of q
  pub coordinates : c.coordinates.items ≡ closed_places q
  pub few : c.count ≤ length (generators q)
  pub columns : AreColumns q.space.variables (dependences_of q) (generators q) c.count c.columns.items
