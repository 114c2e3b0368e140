-- The dependences that given equations state: their row is h(to) - h(from), or the negation, where from is strictly inside to.
use Rattle.std.specs.Prelude.{◌≡◌, ℕ, zero, suc, ◌+◌, ◌^◌, ℤ, pos, negsuc, List, [], ◌∷◌, ◌++◌, length, Option, Some, None, Bool, true, false, ◌&&◌, not, nat_eq, nat_lt, if◌then◌else◌}
use Rattle.it_space.specs.declared.spaces.Space.{Space}
use Rattle.it_problems.specs.declared.problems.Kind.TheVariants.{Equation}
use Rattle.it_problems.specs.declared.problems.Origin.{Origin}
use Rattle.it_problems.specs.declared.problems.Origin.TheVariants.{Given, Rate}
use Rattle.it_problems.specs.declared.problems.Constraint.{Constraint}
use Rattle.it_problems.specs.Problems.{ProblemView}
use Rattle.it_space.specs.Rows.{Terms}
use Rattle.it_polymatroid.specs.Elementals.{elementals}
use Rattle.it_elemental.specs.Generators.{is_equation}
use Rattle.it_elemental.specs.Rows.{set_term}
use Rattle.it_closure.specs.declared.dependences.Dependence.{Dependence}
use Rattle.it_closure.specs.declared.reading.SetPair.{SetPair}
use Rattle.it_closure.specs.Closures.{is_inside}
use Rattle.it_closure.specs.DependencesViews.{IsDependenceOf}

-- the row of a dependence: h(to) - h(from), or its negation
abbrev pub dependence_row : Bool → ℕ → ℕ → Terms
dependence_row negated from to = set_term from (if negated then pos 1 else negsuc 0) ++ set_term to (if negated then negsuc 0 else pos 1)

-- whether a constraint comes from a `given` line
abbrev pub is_given : Origin → Bool
is_given (Given line part parts) = true
is_given (Rate line) = false

-- the constraint is a given equation that states the dependence
pub record SaysDependence (s : Space) (c : Constraint) (d : Dependence) : Type 0 where
  pub given : is_given c.origin ≡ true
  pub equation : c.kind ≡ Equation
  pub row : c.row ≡ dependence_row d.negated d.from d.to
  pub sets : IsDependenceOf s d

-- whether a coefficient is 1
abbrev pub is_one : ℤ → Bool
is_one (pos (suc zero)) = true
is_one x = false

-- whether a coefficient is -1
abbrev pub is_minus_one : ℤ → Bool
is_minus_one (negsuc zero) = true
is_minus_one x = false

-- the coordinates `from` and `to` of a row h(to) - h(from), or of its negation
abbrev pub ends_of : Terms → Option SetPair
ends_of [] = None
ends_of (t ∷ []) =
    if is_one t.1 then Some (record { from = 0; to = t.0; negated = false }) else
    if is_minus_one t.1 then Some (record { from = 0; to = t.0; negated = true }) else None
ends_of (t ∷ u ∷ []) =
    if is_minus_one t.1 && is_one u.1 then Some (record { from = t.0; to = u.0; negated = false }) else
    if is_one t.1 && is_minus_one u.1 then Some (record { from = t.0; to = u.0; negated = true }) else None
ends_of (t ∷ u ∷ v ∷ ts) = None

-- whether the two are sets of the n variables, the first strictly inside the second
abbrev pub are_ends : ℕ → SetPair → Bool
are_ends n e = nat_lt e.to (2 ^ n) && (is_inside e.from e.to && not (nat_eq e.from e.to))

-- the dependence of such sets, with the number g of its generator
abbrev pub with_number : ℕ → ℕ → Option SetPair → Option Dependence
with_number n g None = None
with_number n g (Some e) = if are_ends n e then Some (record { from = e.from; to = e.to; generator = g; negated = e.negated }) else None

-- the dependence that a constraint states, if it states one, where the constraint is generator g
abbrev pub read_one : ℕ → ℕ → Constraint → Option Dependence
read_one n g c = if is_given c.origin && is_equation c.kind then with_number n g (ends_of c.row) else None

-- none or one dependence as a list
abbrev pub dependence_list : Option Dependence → List Dependence
dependence_list None = []
dependence_list (Some d) = d ∷ []

-- the dependences among constraints in order, the first of which is generator g
abbrev pub read_from : ℕ → ℕ → List Constraint → List Dependence
read_from n g [] = []
read_from n g (c ∷ cs) = dependence_list (read_one n g c) ++ read_from n (g + 1) cs

-- the dependences of a problem, whose generators are the elemental inequalities and then the constraints
abbrev pub dependences_of : ProblemView → List Dependence
dependences_of q = read_from q.space.variables (length (elementals q.space.variables)) q.constraints
