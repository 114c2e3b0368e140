-- The generators of a problem: the elemental inequalities, then the constraints, numbered from 0.
use Rattle.std.specs.Prelude.{ℕ, List, [], ◌++◌, length, map, slice_index_or, Bool, true, false}
use Rattle.it_problems.specs.declared.problems.Kind.{Kind}
use Rattle.it_problems.specs.declared.problems.Kind.TheVariants.{Inequality, Equation}
use Rattle.it_problems.specs.declared.problems.Constraint.{Constraint}
use Rattle.it_problems.specs.Problems.{ProblemView}
use Rattle.it_space.specs.Rows.{Terms, value}
use Rattle.it_polymatroid.specs.Certificates.{Generators}
use Rattle.it_polymatroid.specs.Elementals.{Elemental, elementals}
use Rattle.it_elemental.specs.Rows.{elemental_row}

-- a row that must be at least 0, or must be 0, by its kind
pub record Generator : Type 0 where
  pub kind : Kind
  pub row : Terms

-- an elemental inequality as a generator
abbrev pub of_elemental : ℕ → Elemental → Generator
of_elemental n e = record { kind = Inequality; row = elemental_row n e }

-- a constraint as a generator
abbrev pub of_constraint : Constraint → Generator
of_constraint c = record { kind = c.kind; row = c.row }

-- the elemental inequalities of n variables, then the constraints
unfoldable pub generator_list : ℕ → List Constraint → List Generator
generator_list n cs = map (of_elemental n) (elementals n) ++ map of_constraint cs

-- the generators of a problem
abbrev pub generators : ProblemView → List Generator
generators q = generator_list q.space.variables q.constraints

-- generator i of a list
abbrev pub generator_at : List Generator → ℕ → Generator
generator_at gs i = slice_index_or gs i (record { kind = Inequality; row = [] })

-- whether a row of this kind must be 0
abbrev pub is_equation : Kind → Bool
is_equation Inequality = false
is_equation Equation = true

-- generators as the forms that certificates weigh
abbrev pub forms_of : List Generator → Generators
forms_of gs = record {
  count = length gs;
  form = λ i p. value (generator_at gs i).row p;
  is_equation = λ i. is_equation (generator_at gs i).kind;
}

-- the generators of a problem as the forms that its certificates weigh
abbrev pub generators_of : ProblemView → Generators
generators_of q = forms_of (generators q)
