-- Where the demands of lines come from, and the constraints that state them.
use Rattle.std.specs.Prelude.{◌≡◌, ℕ, ◌+◌, List, [], ◌∷◌, ◌++◌, map, length}
use Rattle.std.specs.List.{AllZip}
use Rattle.it_space.specs.declared.spaces.Space.{Space}
use Rattle.it_problems.specs.declared.problems.Origin.{Origin}
use Rattle.it_problems.specs.declared.problems.Origin.TheVariants as origins
use Rattle.it_problems.specs.declared.problems.Constraint.{Constraint}
use Rattle.it_polymatroid.specs.Elementals.{span}
use Rattle.it_syntax.specs.Meaning.{RelationView}
use Rattle.it_syntax.specs.Givens.{GivenView}
use Rattle.it_demand.specs.Canonical.{IsRowOf}
use Rattle.it_demand.specs.Demands.{Demand, demands}

-- the origins of `count` parts, from number `part` on, of `given` line number `line`, which has `parts` parts
abbrev pub part_origins : ℕ → ℕ → ℕ → ℕ → List Origin
part_origins line parts part count = map (λ k. origins.Given line k parts) (span part count)

-- the origins of all demands `ds` of `given` line number `line`, numbered from 1 on
abbrev pub line_parts : ℕ → List Demand → List Origin
line_parts line ds = part_origins line (length ds) 1 (length ds)

-- the origins of the demands of `given` lines, which are numbered from `line` on
abbrev pub given_origins : ℕ → ℕ → List GivenView → List Origin
given_origins n line [] = []
given_origins n line (c ∷ cs) = line_parts line (demands n c) ++ given_origins n (line + 1) cs

-- the origins of the demands of `row` lines, which are numbered from `line` on
abbrev pub row_origins : ℕ → List RelationView → List Origin
row_origins line [] = []
row_origins line (r ∷ rs) = origins.Rate line ∷ row_origins (line + 1) rs

-- the constraint states the demand d
pub record States (s : Space) (d : Demand) (c : Constraint) : Type 0 where
  pub row : IsRowOf s d.form c.row
  pub kind : c.kind ≡ d.kind

-- the constraint has the origin `place`
abbrev pub ComesFrom : Origin → Constraint → Type 0
ComesFrom place c = c.origin ≡ place

-- one constraint for each demand, with these origins, in order
pub record AreStated (s : Space) (places : List Origin) (ds : List Demand) (cs : List Constraint) : Type 0 where
  pub placed : AllZip ComesFrom places cs
  pub stated : AllZip (States s) ds cs

-- the constraints that state a line
abbrev pub AreParts : Space → ℕ → List Demand → List Constraint → Type 0
AreParts s line ds cs = AreStated s (line_parts line ds) ds cs
