-- No public clause cites this module: sums by place to which forms are added, and constraints by number.
use Rattle.std.specs.Prelude.{◌≡◌, ◌<◌, ◌≤◌, ◌-◌, ℕ, ℤ, ◌+ℤ◌, ◌-ℤ◌, Bool, List, All, length, map, get_or}
use Rattle.std.specs.List.{AllZip}
use Rattle.it_number.specs.Limit.{IsWithin}
use Rattle.it_space.specs.declared.spaces.Space.{Space}
use Rattle.it_space.specs.Rows.{IsOver, Terms, value}
use Rattle.it_space.specs.Spaces.{size_of}
use Rattle.it_syntax.specs.Meaning.{RelationView}
use Rattle.it_terms.specs.Proofs.{AreSame, side_form}
use Rattle.it_terms.specs.FunctionProofs.{IsProofUnder, IsSaid}
use Rattle.it_problems.specs.Problems.{ProblemView}
use Rattle.it_closure.specs.declared.dependences.Dependence.{Dependence}
use Rattle.it_syntax.specs.NamesViews.{NamesView}
use Rattle.it_problems.specs.declared.problems.Constraint.{Constraint}
use Rattle.it_polymatroid.specs.Certificates.{Form, combination}
use Rattle.it_elemental.specs.Generators.{forms_of, of_constraint}
use Rattle.it_demand.specs.Coefficients.{dense_form, signed_by}

-- `new` has the coefficients of the form of `old` plus `form`, and they are within the limit if those of `old` are
pub record IsPlus (old new : List ℤ) (form : Form) : Type 0 where
  pub complete : length new ≡ length old
  pub within : All IsWithin old → All IsWithin new
  pub sum : (p : ℕ → ℤ) → dense_form new p ≡ dense_form old p +ℤ form p

-- the value of a constraint by its number
abbrev pub constraint_value : List Constraint → (ℕ → ℤ) → ℕ → ℤ
constraint_value cs p i = (forms_of (map of_constraint cs)).form i p

-- the row of the space is the left side of the relation less its right side, negated if `negated`, plus the constraints with
-- weights `ws`
pub record IsExcess (s : Space) (r : RelationView) (negated : Bool) (cs : List Constraint) (ws : List (ℕ × ℤ)) (row : Terms) : Type 0 where
  pub coordinates : IsOver (size_of s) row
  pub same : AreSame (value row) (λ p. signed_by negated (side_form s.variables r r.left p -ℤ side_form s.variables r r.right p) +ℤ combination ws (constraint_value cs p))

-- a weight by the index of its constraint, where `count` generators come before the constraints
abbrev pub by_constraint : ℕ → ℕ × ℤ → ℕ × ℤ
by_constraint count w = (w.0 - count, w.1)

-- constraints by their numbers, in order
abbrev pub AreChosen : List Constraint → List ℕ → List Constraint → Type 0
AreChosen cs lines chosen = AllZip (λ line c. (line < length cs) × (c ≡ get_or cs line c)) lines chosen

-- the constraints of these numbers say the functions
abbrev pub AreSaid : ProblemView → List ℕ → List Dependence → Type 0
AreSaid problem lines functions = All (IsSaid problem.space.variables (forms_of (map of_constraint problem.constraints)) lines) functions

-- the relation is a proof from the problem's constraints, where the functions hold that those of these numbers say
abbrev pub IsProofBy : ProblemView → List ℕ → RelationView → List (ℕ × ℤ) → Terms → Type 0
IsProofBy problem lines r named target =
    IsProofUnder problem.space.variables lines r named (value target) (forms_of (map of_constraint problem.constraints))

-- under these names the problem is theirs, and the functions are those that its constraints of these numbers say
pub record AreReadUnder (v : NamesView) (problem : ProblemView) (lines : List ℕ) (s : Space) (functions : List Dependence) : Type 0 where
  pub some : 1 ≤ length v.variables
  pub names : problem.space ≡ record { variables = length v.variables; rates = length v.rates }
  pub space : s ≡ problem.space
  pub said : All (IsSaid problem.space.variables (forms_of (map of_constraint problem.constraints)) lines) functions
