-- What is to be shown of a substitution: the second region's own constraints at the pulled-back map.
use Rattle.std.specs.Prelude.{◌≡◌, ℕ, ◌<◌, ◌^◌, ℤ, pos, ◌≤ℤ◌, List, [], ◌∷◌, ◌++◌, length, flat_map, All}
use Rattle.std.specs.List.{AllZip}
use Rattle.it_space.specs.declared.spaces.Space.{Space}
use Rattle.it_problems.specs.declared.problems.Constraint.{Constraint}
use Rattle.it_space.specs.Rows.{Terms, IsCanonical, IsOver, value}
use Rattle.it_space.specs.Spaces.{size_of}
use Rattle.it_polymatroid.specs.Certificates.{Form}
use Rattle.it_question.specs.OwnLines.{RegionView}
use Rattle.it_question.specs.Questions.{BodyView}
use Rattle.it_demand.specs.Targets.{inequalities_of}
use Rattle.it_demand.specs.Demands.{Demand}
use Rattle.it_question.specs.LineDemands.{line_demands}
use Rattle.it_region.specs.Pulling.{substituted_sets, pulled_coordinate}

-- the form at a map pulled back, which has at each coordinate c the value at f c
abbrev pub pulled_form : (ℕ → ℕ) → Form → Form
pulled_form f form p = form (λ c. p (f c))

-- the obligations that demands give, in order
abbrev pub demand_obligations : (ℕ → ℕ) → List Demand → List Form
demand_obligations f ds = flat_map (λ d. inequalities_of d.kind (pulled_form f d.form)) ds

-- the obligations that constraints give, in order
abbrev pub constraint_obligations : (ℕ → ℕ) → List Constraint → List Form
constraint_obligations f [] = []
constraint_obligations f (c ∷ cs) = inequalities_of c.kind (pulled_form f (value c.row)) ++ constraint_obligations f cs

-- the obligations where each auxiliary of region b stands for a part, by the meaning of its own lines
abbrev pub obligations : BodyView → RegionView → RegionView → List ℕ → List Form
obligations q a b parts = demand_obligations (pulled_coordinate (length a.names.variables) (length b.names.variables) (substituted_sets (length q.names.variables) parts)) (line_demands (length b.names.variables) b.lines)

-- each of the forms is at least 0 at p
abbrev pub AreFormsAtLeastZero : (ℕ → ℤ) → List Form → Type 0
AreFormsAtLeastZero p forms = All (λ f. pos 0 ≤ℤ f p) forms

-- a set of the first region's variables for each auxiliary of the second one
pub record IsSubstitution (a b : RegionView) (parts : List ℕ) : Type 0 where
  pub count : length parts ≡ b.auxiliaries
  pub within : All (λ s. s < 2 ^ length a.names.variables) parts

-- The canonical row of an obligation over the coordinates of the first region's space. Where sets fall together its coefficients
-- are sums, so they may be larger than those of a row from a question file.
pub record IsPulledRow (s : Space) (form : Form) (row : Terms) : Type 0 where
  pub same : (p : ℕ → ℤ) → p 0 ≡ pos 0 → value row p ≡ form p
  pub coordinates : IsOver (size_of s) row
  pub canonical : IsCanonical row

-- one row for each form, in order
abbrev pub ArePulledRows : Space → List Form → List Terms → Type 0
ArePulledRows s forms rows = AllZip (IsPulledRow s) forms rows
