-- No public clause cites this module: rows that have one sign everywhere, or wherever functions hold.
use Rattle.std.specs.Prelude.{◌≡◌, ◌↔◌, ◌<◌, ℕ, ℤ, pos, ◌≤ℤ◌, List, length, map, get_or, All}
use Rattle.it_problems.specs.declared.problems.Constraint.{Constraint}
use Rattle.it_problems.specs.declared.problems.Kind.TheVariants.{Equation}
use Rattle.it_problems.specs.declared.problems.Origin.{Origin}
use Rattle.it_problems.specs.declared.problems.Origin.TheVariants.{Given, Rate}
use Rattle.it_space.specs.Rows.{HaveOneSign, Terms, value}
use Rattle.it_elemental.specs.Generators.{forms_of, of_constraint}
use Rattle.it_closure.specs.declared.dependences.Dependence.{Dependence}
use Rattle.it_closure.specs.Collapse.{spread_out}
use Rattle.it_syntax.specs.Meaning.{Holds, RelationView}
use Rattle.it_syntax.specs.NamesViews.{NamesView}
use Rattle.it_polymatroid.specs.Certificates.{Generators}
use Rattle.it_terms.specs.Tells.{IsRelationText}
use Rattle.it_terms.specs.RowsUnder.{SaysRowUnder}

-- both rows are at least 0 at the same maps
abbrev pub AreLeastTogether : Terms → Terms → Type 0
AreLeastTogether row other = (p : ℕ → ℤ) → (pos 0 ≤ℤ value row p) ↔ (pos 0 ≤ℤ value other p)

-- the row over closed sets has the sign of the other one at each map that is spread out
abbrev pub HasSignUnder : ℕ → List Dependence → Terms → Terms → Type 0
HasSignUnder n ds row closed = (p : ℕ → ℤ) → p 0 ≡ pos 0 → HaveOneSign (value row (spread_out n ds p)) (value closed p)

-- the relation holds exactly where the row is at least 0, of the maps that are spread out
abbrev pub SaysSpreadOut : ℕ → List Dependence → RelationView → Terms → Type 0
SaysSpreadOut n ds r row = (p : ℕ → ℤ) → p 0 ≡ pos 0 → Holds n (spread_out n ds p) r ↔ (pos 0 ≤ℤ value row (spread_out n ds p))

-- both rows are at least 0 at the same maps that are spread out
abbrev pub AreLeastSpreadOut : ℕ → List Dependence → Terms → Terms → Type 0
AreLeastSpreadOut n ds row other = (p : ℕ → ℤ) → p 0 ≡ pos 0 → (pos 0 ≤ℤ value row (spread_out n ds p)) ↔ (pos 0 ≤ℤ value other (spread_out n ds p))

-- under these names the text is a relation that says what the row says at each polymatroid at which the constraints of these numbers are 0
pub record TellsRowBy (v : NamesView) (g : Generators) (lines : List ℕ) (row : Terms) (text : List ℕ) : Type 0 where
  pub relation : RelationView
  pub is : IsRelationText v text relation
  pub same : SaysRowUnder (length v.variables) g lines relation row

-- the origin is a `given` line
abbrev pub IsGiven : Origin → Type 0
IsGiven (Given line part parts) = Unit {0}
IsGiven (Rate line) = ⊥

-- constraint `l` is an equation of a `given` line
abbrev pub IsGivenEquation : List Constraint → ℕ → Type 0
IsGivenEquation cs l = (l < length cs) × ((c : Constraint) × ((c ≡ get_or cs l c) × (IsGiven c.origin × (c.kind ≡ Equation))))

-- the constraints `lines` are equations of `given` lines
abbrev pub AreGivenEquations : List Constraint → List ℕ → Type 0
AreGivenEquations cs lines = All (IsGivenEquation cs) lines

-- the text tells the row where these constraints are true, which are equations of `given` lines
pub record IsPrintedRowFrom (v : NamesView) (row : Terms) (cs : List Constraint) (lines text : List ℕ) : Type 0 where
  pub given : AreGivenEquations cs lines
  pub tells : TellsRowBy v (forms_of (map of_constraint cs)) lines row text
