-- The generators of a problem, by their numbers.
use Rattle.std.proofs.Common.{◌≡◌, ℕ, ◌+◌, ◌-◌, ◌^◌, ◌<◌, ◌≤◌, ℤ, pos, [], length, get_or, ap, ◌∙◌, arith}
use Rattle.it_problems.specs.declared.problems.Kind.TheVariants.{Inequality}
use Rattle.it_problems.specs.declared.problems.Constraint.{Constraint}
use Rattle.it_problems.specs.Problems.{ProblemView, IsProblem}
use Rattle.it_space.specs.Rows.{value, IsOver}
use Rattle.it_space.specs.Spaces.{size_of}
use Rattle.it_polymatroid.specs.Elementals.{elementals, elemental_at, elemental_value}
use Rattle.it_elemental.specs.Generators.{Generator, generators, generator_at, generators_of}
use Rattle.it_elemental.proofs.GeneratorLemmas.{length-listed, front_is_elemental, after_is, rows_of_space, every_or}
use Rattle.it_elemental.proofs.RowLemmas.{value-row}

pub total_is : (q : ProblemView) → (generators_of q).count ≡ length (elementals q.space.variables) + length q.constraints
total_is q = omega (arith, length-listed q.space.variables q.constraints)

pub form_own : (q : ProblemView) (i : ℕ) (h : ℕ → ℤ) → h 0 ≡ pos 0 → i < length (elementals q.space.variables)
    → (generators_of q).form i h ≡ elemental_value q.space.variables h (elemental_at q.space.variables i)
form_own q i h z l =
    ap (λ (g : Generator). value g.row h) (front_is_elemental q.space.variables q.constraints i (omega arith))
    ∙ value-row q.space.variables (elemental_at q.space.variables i) h z

-- the generator of a constraint
pub constraint_is : (q : ProblemView) (i own : ℕ) (c : Constraint) → own ≡ length (elementals q.space.variables) → own ≤ i
    → i - own < length q.constraints → c ≡ get_or q.constraints (i - own) c
    → generator_at (generators q) i ≡ record { kind = c.kind; row = c.row }
constraint_is q i own c e l b is = after_is q.space.variables q.constraints i own c e l (omega (arith, length-listed q.space.variables q.constraints)) is

-- each row is of the space
pub row_of_space : (q : ProblemView) (i : ℕ) → IsProblem q → 2 ^ q.space.variables ≤ size_of q.space + 1
    → IsOver (size_of q.space) (generator_at (generators q) i).row
row_of_space q i p s = every_or (λ (g : Generator). IsOver (size_of q.space) g.row) (generators q) i (record { kind = Inequality; row = [] })
    (rows_of_space q.space.variables (size_of q.space) q.constraints s p.rows) (λ k d h. absurd (omega arith))
