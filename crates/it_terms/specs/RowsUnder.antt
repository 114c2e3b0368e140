-- Texts that say what a row says wherever lines of the question are true.
use Rattle.std.specs.Prelude.{◌≡◌, ◌↔◌, ◌<◌, ℕ, ℤ, pos, ◌≤ℤ◌, true, List, length, flat_map, All}
use Rattle.it_space.specs.Rows.{Terms, value}
use Rattle.it_polymatroid.specs.Polymatroid.{IsPolymatroid}
use Rattle.it_polymatroid.specs.Certificates.{Generators}
use Rattle.it_syntax.specs.Givens.{IsTrueAt}
use Rattle.it_syntax.specs.Meaning.{RelationView, Holds}
use Rattle.it_syntax.specs.NamesViews.{NamesView}
use Rattle.it_demand.specs.Demands.{Demand, demands}
use Rattle.it_question.specs.Questions.{BodyView}
use Rattle.it_question.specs.ProblemLines.{problem_lines, problem_names}
use Rattle.it_canon.specs.TrueLines.{variable_count}
use Rattle.it_terms.specs.Proofs.{constraints_of}
use Rattle.it_terms.specs.Tells.{IsRelationText}

-- these numbers are those of constraints that are there and are equations
abbrev pub AreEquations : Generators → List ℕ → Type 0
AreEquations g lines = All (λ l. (l < g.count) × (g.is_equation l ≡ true)) lines

-- each of these constraints is 0 at the map
abbrev pub AreZeroAt : Generators → List ℕ → (ℕ → ℤ) → Type 0
AreZeroAt g lines p = All (λ l. g.form l p ≡ pos 0) lines

-- at each polymatroid at which these constraints are 0, the relation of n variables holds exactly where the row is at least 0
abbrev pub SaysRowUnder : ℕ → Generators → List ℕ → RelationView → Terms → Type 0
SaysRowUnder n g lines r row = (p : ℕ → ℤ) → IsPolymatroid n p → AreZeroAt g lines p → Holds n p r ↔ (pos 0 ≤ℤ value row p)

-- under these names the text is a relation that says what the row says wherever these equations among the constraints are true
pub record TellsRowUnder (v : NamesView) (lines : List ℕ) (row : Terms) (g : Generators) (text : List ℕ) : Type 0 where
  pub relation : RelationView
  pub is : IsRelationText v text relation
  pub equations : AreEquations g lines
  pub same : SaysRowUnder (length v.variables) g lines relation row

-- what the `given` lines of a question's problem demand, which is the first part of what all its lines demand
abbrev pub given_demands : BodyView → List Demand
given_demands q = flat_map (demands (variable_count q)) (problem_lines q).givens

-- the text tells the row where these `given` lines of the question are true
abbrev pub IsPrintedRow : BodyView → Terms → List ℕ → List ℕ → Type 0
IsPrintedRow q row lines text = TellsRowUnder (problem_names q) lines row (constraints_of (given_demands q)) text

-- A text that is a printed row says what the row says wherever a polymatroid makes the question's `given` lines true.
abbrev pub PrintedRowsSay : Type 0
PrintedRowsSay = (q : BodyView) (row : Terms) (lines text : List ℕ) (t : IsPrintedRow q row lines text) (p : ℕ → ℤ) → IsPolymatroid (variable_count q) p → All (IsTrueAt (variable_count q) p) (problem_lines q).givens
    → Holds (variable_count q) p t.relation ↔ (pos 0 ≤ℤ value row p)
