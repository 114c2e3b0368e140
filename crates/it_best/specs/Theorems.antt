-- Theorems about the answers about factors.
use Rattle.std.specs.Prelude.{◌≡◌, ℕ, ◌+◌, ℤ, pos, neg_ℤ, ◌*ℤ◌, ◌≤ℤ◌, List, length, Option, None}
use Rattle.it_space.specs.Answers.{CertificateView}
use Rattle.it_problems.specs.Problems.{ProblemView, IsProblem}
use Rattle.it_space.specs.Rows.{Terms, IsOver, value}
use Rattle.it_space.specs.Spaces.{size_of}
use Rattle.it_polymatroid.specs.Certificates.{Form}
use Rattle.it_columns.specs.Columns.{columns}
use Rattle.it_ratio.specs.declared.types.BestCause.TheVariants as causes
use Rattle.it_ratio.specs.BestViews.{BestView, Undecided}
use Rattle.it_best.specs.Ends.{EndsWith, third, third_columns, third_rows}
use Rattle.it_best.specs.Factors.{HasNoFactor, HoldsFactor, IsFactor, IsLeastFactor, IsRightBest, ground_of}

-- the answer of the phases is right
abbrev pub BestIsRight : Type 0
BestIsRight = (q : ProblemView) (left right : Terms) (budget : Option ℕ) (o : BestView) → IsProblem q → IsOver (size_of q.space) left → IsOver (size_of q.space) right
    → EndsWith q left right budget o → IsRightBest (ground_of q) (value left) (value right) o

-- sides under a problem have one answer for a budget
abbrev pub OneBest : Type 0
OneBest = (q : ProblemView) (left right : Terms) (budget : Option ℕ) (o p : BestView) → EndsWith q left right budget o → EndsWith q left right budget p → o ≡ p

-- without a budget no answer is left open because steps ran out
abbrev pub BestNeverOutOfSteps : Type 0
BestNeverOutOfSteps = (q : ProblemView) (left right : Terms) (k phase : ℕ) → EndsWith q left right None (Undecided (causes.Pivots k phase)) → ⊥

-- ---- the meaning of right answers

-- the least factor holds, and no smaller one does
abbrev pub LeastIsLeast : Type 0
LeastIsLeast = (q : ProblemView) (left right : Terms) (num den : ℤ) (proof : CertificateView) (values : List ℤ) → IsProblem q → IsOver (size_of q.space) left → IsOver (size_of q.space) right
    → IsLeastFactor (ground_of q) (value left) (value right) num den proof values
    → HoldsFactor (ground_of q) (value left) (value right) num den
    × ((a b : ℤ) → pos 1 ≤ℤ b → HoldsFactor (ground_of q) (value left) (value right) a b → (num *ℤ b) ≤ℤ (a *ℤ den))

-- if at a point the left side is 0 and the right one above 0, no factor holds
abbrev pub NeverIsNever : Type 0
NeverIsNever = (q : ProblemView) (left right : Form) (values : List ℤ) → HasNoFactor (ground_of q) left right values → (a b : ℤ) → pos 1 ≤ℤ b → HoldsFactor (ground_of q) left right a b → ⊥

-- if the left side is at most 0, all numbers smaller than a factor that holds are factors that hold
abbrev pub UnboundedIsUnbounded : Type 0
UnboundedIsUnbounded = (q : ProblemView) (left right : Terms) (num den : ℤ) (proof below : CertificateView) → IsProblem q → IsOver (size_of q.space) left → IsOver (size_of q.space) right
    → IsFactor (ground_of q) (value left) (value right) num den proof → (ground_of q).Certifies (λ p. neg_ℤ (value left p)) below
    → (a b : ℤ) → pos 1 ≤ℤ b → (a *ℤ den) ≤ℤ (num *ℤ b) → HoldsFactor (ground_of q) (value left) (value right) a b

-- third_columns counts the third phase's columns, and an artificial column for each equation
abbrev pub SizeIsCounted : Type 0
SizeIsCounted = (q : ProblemView) (left right : Terms) → third_columns q ≡ length (columns (third q left right)) + third_rows q

-- forms with the same values at each map that is 0 at the empty set
abbrev pub AreSameForms : Form → Form → Type 0
AreSameForms f g = (p : ℕ → ℤ) → p 0 ≡ pos 0 → f p ≡ g p

-- an answer that is right for the rows of sides is right for their meanings
abbrev pub RightByForms : Type 0
RightByForms = (q : ProblemView) (left right other_left other_right : Form) → AreSameForms left other_left → AreSameForms right other_right
    → ((o : BestView) → IsRightBest (ground_of q) left right o → IsRightBest (ground_of q) other_left other_right o)
    × ((num den : ℤ) → HoldsFactor (ground_of q) left right num den → HoldsFactor (ground_of q) other_left other_right num den)
