-- What it means that an answer is true, by the meaning of the question's text. Nothing here speaks of certificates or of where a
-- line stands.
use Rattle.std.specs.Prelude.{◌≡◌, ◌↔◌, ℕ, ◌+◌, ◌≤◌, ◌^◌, ℤ, neg_ℤ, pos, ◌≤ℤ◌, ◌*ℤ◌, List, ◌∷◌, ◌++◌, length, map, Bool, All, Contains}
use Rattle.it_space.specs.declared.answers.Mark.{Mark}
use Rattle.it_space.specs.declared.answers.Mark.TheVariants as marks
use Rattle.it_space.specs.Answers.{AnswerView, CertificateView}
use Rattle.it_space.specs.Answers.AnswerView.{Yes, No, Undecided, Region, Contained, Open}
use Rattle.it_space.specs.Rows.{Terms, IsOver, value, point_of}
use Rattle.it_space.specs.Spaces.{size_of}
use Rattle.it_polymatroid.specs.Polymatroid.{IsPolymatroid}
use Rattle.it_syntax.specs.Givens.{IsTrueAt}
use Rattle.it_syntax.specs.Meaning.{RelationView, Holds}
use Rattle.it_question.specs.Questions.{BodyView, VerbView, Prove, Eliminate, Contain}
use Rattle.it_canon.specs.TrueLines.{variable_count, AreTrueTogether}
use Rattle.it_demand.specs.QuestionSpaces.{space_of}
use Rattle.it_eliminate.specs.Projections.{IsPointOf, LacksCoordinate}
use Rattle.it_region.specs.Regions.{LiesIn}

-- ---- of rates to eliminate

-- the rows of a region without their marks
abbrev pub region_rows : List (Mark × Terms) → List Terms
region_rows rows = map (λ row. row.1) rows

-- some positive whole multiple of p, with any values of the eliminated rates, meets the `row` lines; n is the number of variables
pub record LinesExtend (n : ℕ) (rates : List ℕ) (lines : List RelationView) (p : ℕ → ℤ) : Type 0 where
  pub factor : ℕ
  pub some : 1 ≤ factor
  pub point : ℕ → ℤ
  pub kept : (c : ℕ) → ¬ (Contains (map (λ r. 2 ^ n + r) rates) c) → point c ≡ pos factor *ℤ p c
  pub meets : All (Holds n point) lines

-- the row doesn't follow: at a polymatroid and rates that make the givens true the other rows hold, and this one is -1 or less
pub record DoesNotFollow (q : BodyView) (others : List Terms) (row : Terms) : Type 0 where
  pub point : ℕ → ℤ
  pub polymatroid : IsPolymatroid (length q.names.variables) point
  pub givens_true : All (IsTrueAt (length q.names.variables) point) q.lines.givens
  pub others_hold : IsPointOf others point
  pub violated : value row point ≤ℤ neg_ℤ (pos 1)

-- no row that is marked as needed follows from the others
abbrev pub MarkedRowsAreNeeded : BodyView → List (Mark × Terms) → Type 0
MarkedRowsAreNeeded q rows = (before after : List (Mark × Terms)) (row : Terms) → rows ≡ before ++ (marks.Needed, row) ∷ after
    → DoesNotFollow q (region_rows before ++ region_rows after) row

-- rows over the question's coordinates, without the eliminated rates, that hold at a polymatroid which makes the givens true, and
-- rates, exactly where this point extends to the eliminated rates; and none that is marked as needed follows from the others
pub record IsExactRegion (q : BodyView) (rates : List ℕ) (rows : List (Mark × Terms)) : Type 0 where
  pub coordinates : All (IsOver (size_of (space_of q.names))) (region_rows rows)
  pub free : (r : ℕ) → Contains rates r → LacksCoordinate (2 ^ length q.names.variables + r) (region_rows rows)
  pub exact : (p : ℕ → ℤ) → IsPolymatroid (length q.names.variables) p → All (IsTrueAt (length q.names.variables) p) q.lines.givens
      → IsPointOf (region_rows rows) p ↔ LinesExtend (length q.names.variables) rates q.lines.rows p
  pub needed : MarkedRowsAreNeeded q rows

-- ---- of any question

-- Asked about a relation, a yes is true where the relation holds at every polymatroid and rates that make the question's lines true, a
-- no where its values are such a polymatroid and rates and the relation fails there. Asked to eliminate rates, rows are true where
-- they are the projection; asked about two regions, a containment is true where the first lies in the second. An undecided or open
-- answer is always true.
abbrev pub IsTrueBy : BodyView → VerbView → AnswerView → Type 0
IsTrueBy q (Prove r) (Yes ws) = (p : ℕ → ℤ) → AreTrueTogether q p → Holds (variable_count q) p r
IsTrueBy q (Prove r) (No is_back values) = AreTrueTogether q (point_of values) × ¬ (Holds (variable_count q) (point_of values) r)
IsTrueBy q (Prove r) (Undecided cause) = Unit {0}
IsTrueBy q (Eliminate rates) (Region rows) = IsExactRegion q rates rows
IsTrueBy q (Eliminate rates) (Undecided cause) = Unit {0}
IsTrueBy q (Contain a b tries) (Contained parts ws) = LiesIn q a b
IsTrueBy q (Contain a b tries) (Open tried) = Unit {0}
IsTrueBy q verb answer = ⊥

-- the answer to the question is true
abbrev pub IsTrueAnswer : BodyView → AnswerView → Type 0
IsTrueAnswer q answer = IsTrueBy q q.verb answer

-- ---- what follows

-- no question has a yes and a no that are both true
abbrev pub NeverYesAndNo : Type 0
NeverYesAndNo = (q : BodyView) (ws : List CertificateView) (is_back : Bool) (values : List ℤ) → IsTrueAnswer q (Yes ws) → IsTrueAnswer q (No is_back values) → ⊥
