-- The run over the sets that are closed under a problem's functional dependences: its coordinates, its columns and its target, and
-- the point over all sets by its point.
use Rattle.std.specs.Prelude.{ℕ, ℤ, List, map, filter, nat_lt, All}
use Rattle.std.specs.List.{zip}
use Rattle.it_rational.specs.Rational.{Rational}
use Rattle.it_problems.specs.Problems.{ProblemView}
use Rattle.it_space.specs.Rows.{Terms, coefficient}
use Rattle.it_space.specs.Spaces.{size_of}
use Rattle.it_polymatroid.specs.Elementals.{span}
use Rattle.it_elemental.specs.Generators.{Generator, generators}
use Rattle.it_closure.specs.declared.dependences.Dependence.{Dependence}
use Rattle.it_closure.specs.Collapse.{placed_terms, spread_out, CollapseFits}
use Rattle.it_closure.specs.Coordinates.{closed_coordinates}
use Rattle.it_closure.specs.Reading.{dependences_of}
use Rattle.it_columns.specs.Scaling.{scaled_point}

-- a row over closed sets: each set replaced by its closure, and the sets with the closure of the empty set left out, which have entropy 0
abbrev pub collapsed_row : ℕ → List Dependence → Terms → Terms
collapsed_row n ds row = filter (λ t. nat_lt 0 t.0) (placed_terms n ds row)

-- a generator over closed sets: of the same kind, with its row collapsed
abbrev pub collapsed_generator : ℕ → List Dependence → Generator → Generator
collapsed_generator n ds g = record { kind = g.kind; row = collapsed_row n ds g.row }

-- the coordinates of the run
abbrev pub closed_places : ProblemView → List ℕ
closed_places q = closed_coordinates q.space.variables q.space.rates (dependences_of q)

-- the generators of a problem over closed sets, which give the run its columns
abbrev pub closed_generators : ProblemView → List Generator
closed_generators q = map (collapsed_generator q.space.variables (dependences_of q)) (generators q)

-- the target over closed sets
abbrev pub closed_target : ProblemView → Terms → Terms
closed_target q target = collapsed_row q.space.variables (dependences_of q) target

-- the partial sums of the collapse of each generator and of the target are within the limit
pub record CollapsesFit (q : ProblemView) (target : Terms) : Type 0 where
  pub each : All (λ g. CollapseFits q.space.variables (dependences_of q) g.row) (generators q)
  pub own : CollapseFits q.space.variables (dependences_of q) target

-- The point over all coordinates by a point of the run: scaled to whole numbers, then spread out. A set has the value of its closure,
-- or 0 if that is the closure of the empty set.
abbrev pub spread_point : ProblemView → List Rational → List ℤ
spread_point q qs = map (spread_out q.space.variables (dependences_of q) (coefficient (zip (closed_places q) (scaled_point qs)))) (span 1 (size_of q.space))
