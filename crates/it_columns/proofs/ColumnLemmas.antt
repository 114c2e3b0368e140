-- The rows of the columns, their number, and the points that meet them.
use Rattle.std.proofs.Common.{◌≡◌, ℕ, suc, ◌*◌, ◌<◌, ◌≤◌, ℤ, pos, neg_ℤ, ◌≤ℤ◌, List, [], ◌∷◌, ◌++◌, length, get_or, arith}
use Rattle.std.specs.List.{flat_map, AllByRecursion as Every}
use Rattle.std.proofs.lemmas.Int.{ints}
use Rattle.it_problems.specs.declared.problems.Kind.{Kind}
use Rattle.it_problems.specs.declared.problems.Kind.TheVariants.{Inequality, Equation}
use Rattle.it_problems.specs.Problems.{ProblemView, IsProblem, Meets}
use Rattle.it_space.specs.Rows.{Terms, value, negated_terms}
use Rattle.it_space.proofs.EveryLemmas.{every-flat_map, every_flat_mapped, every-same}
use Rattle.it_space.proofs.TermLemmas.{value-negated_terms}
use Rattle.it_elemental.specs.Generators.{Generator, generators}
use Rattle.it_elemental.specs.Places.{most_generators}
use Rattle.it_elemental.proofs.GeneratorLemmas.{length-listed, few_elementals}
use Rattle.it_columns.specs.Columns.{columns_by, columns}

-- a number is in a list
abbrev pub In : List ℕ → ℕ → Type 0
In xs c = (k : ℕ) × (k < length xs) × (get_or xs k 0 ≡ c)

-- ---- rows of the columns

negated_keeps : (P : ℕ → Type 0) (row : Terms) → Every (λ t. P t.0) row → Every (λ t. P t.0) (negated_terms row)
negated_keeps P [] u = tt
negated_keeps P (t ∷ ts) u = (u.0, negated_keeps P ts u.1)

by_kind : (P : ℕ → Type 0) (k : Kind) (row : Terms) → Every (λ t. P t.0) row → Every (λ (r : Terms). Every (λ t. P t.0) r) (columns_by k row)
by_kind P Inequality row u = (u, tt)
by_kind P Equation row u = (u, (negated_keeps P row u, tt))

pub columns_keep : (P : ℕ → Type 0) (gs : List Generator) → Every (λ g. Every (λ t. P t.0) g.row) gs → Every (λ (r : Terms). Every (λ t. P t.0) r) (columns gs)
unfolding columns
columns_keep P gs u = every-flat_map (λ (r : Terms). Every (λ t. P t.0) r) (λ (g : Generator). columns_by g.kind g.row) gs
    (every-same (λ g. Every (λ t. P t.0) g.row) (λ g. Every (λ (r : Terms). Every (λ t. P t.0) r) (columns_by g.kind g.row)) gs
    (λ g h. by_kind P g.kind g.row h) u)

-- where each column is at least 0 the generators are met
met_by_kind : (k : Kind) (row : Terms) (p : ℕ → ℤ) → Every (λ r. pos 0 ≤ℤ value r p) (columns_by k row) → Meets k (value row p)
met_by_kind Inequality row p e = e.0
met_by_kind Equation row p e = opposites_are_zero (value row p) (value (negated_terms row) p) e.0 e.1.0 (value-negated_terms row p)
  where
    opposites_are_zero : (x y : ℤ) → pos 0 ≤ℤ x → pos 0 ≤ℤ y → y ≡ neg_ℤ x → x ≡ pos 0
    opposites_are_zero x y h k e = omega (arith, ints, e)

pub columns_met : (gs : List Generator) (p : ℕ → ℤ) → Every (λ r. pos 0 ≤ℤ value r p) (columns gs) → Every (λ g. Meets g.kind (value g.row p)) gs
unfolding columns
columns_met gs p e = every-same (λ g. Every (λ r. pos 0 ≤ℤ value r p) (columns_by g.kind g.row)) (λ g. Meets g.kind (value g.row p)) gs
    (λ g h. met_by_kind g.kind g.row p h) (every_flat_mapped (λ r. pos 0 ≤ℤ value r p) (λ (g : Generator). columns_by g.kind g.row) gs e)

-- there are few
pub few_columns : (gs : List Generator) → length (columns gs) ≤ 2 * length gs
unfolding columns
few_columns [] = omega arith
few_columns (g ∷ gs) = by_kind g.kind (few_columns gs)
  where
    by_kind : (k : Kind) → length (flat_map (λ (g : Generator). columns_by g.kind g.row) gs) ≤ 2 * length gs
        → length (columns_by k g.row ++ flat_map (λ (g : Generator). columns_by g.kind g.row) gs) ≤ 2 * suc (length gs)
    by_kind Inequality h = omega arith
    by_kind Equation h = omega arith

pub few_generators : (q : ProblemView) → IsProblem q → length (generators q) ≤ most_generators
few_generators q k = omega (arith, length-listed q.space.variables q.constraints, few_elementals q.space.variables k.space.few, k.few)
