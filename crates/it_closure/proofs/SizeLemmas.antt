-- The number of columns of constraints, counted one by one, and a bound on the number of rows.
use Rattle.std.proofs.Common.{◌≡◌, ℕ, ◌+◌, ◌-◌, ◌*◌, ◌<◌, ◌≤◌, ◌^◌, List, [], ◌∷◌, length, drop, get_or, ap, arith, lit<, length-append}
use Rattle.std.specs.Prelude.{filter}
use Rattle.std.proofs.Math.Nat.{pow-le-pow_right, mul-le-mul_right}
use Rattle.it_polymatroid.specs.Elementals.{span}
use Rattle.it_polymatroid.proofs.Spans.{length-span}
use Rattle.it_closure.specs.declared.dependences.Dependence.{Dependence}
use Rattle.it_closure.specs.Coordinates.{closed_coordinates, has_row}
use Rattle.std.proofs.lemmas.List.{drop_all}
use Rattle.std.proofs.lemmas.Nat.{pow_pos}
use Rattle.std.proofs.lemmas.List.Sums.{length-filter, count_by-le-length}
use Rattle.it_problems.specs.declared.problems.Kind.{Kind}
use Rattle.it_problems.specs.declared.problems.Kind.TheVariants.{Inequality, Equation}
use Rattle.it_problems.specs.declared.problems.Constraint.{Constraint}
use Rattle.it_space.specs.Spaces.{most_coordinates, most_rates}
use Rattle.it_space.proofs.ListLemmas.{drop_item}
use Rattle.it_closure.specs.Sizes.{column_count, constraint_columns}

-- the columns of the first i constraints, each of which has at most two
pub record AreCounted (cs : List Constraint) (i columns : ℕ) : Type 0 where
  pub same : columns + constraint_columns (drop i cs) ≡ constraint_columns cs
  pub few : columns ≤ 2 * i

pub counted_next : (cs : List Constraint) (i columns one : ℕ) (c : Constraint) → i < length cs → c ≡ get_or cs i c
    → one ≡ column_count c.kind → one ≤ 2 → AreCounted cs i columns → AreCounted cs (i + 1) (columns + one)
counted_next cs i columns one c l e k few a =
    let rest : constraint_columns (drop i cs) ≡ column_count c.kind + constraint_columns (drop (i + 1) cs) = ap constraint_columns (drop_item cs i c l e) in
    record { same = omega (arith, a.same, rest, k); few = omega (arith, a.few, few) }

pub counted_done : (cs : List Constraint) (i columns : ℕ) → length cs ≤ i → AreCounted cs i columns → columns ≡ constraint_columns cs
counted_done cs i columns l a = let rest : constraint_columns (drop i cs) ≡ 0 = ap constraint_columns (drop_all i cs l) in omega (arith, a.same, rest)

-- a table has at most as many rows as there are nonempty sets and rates
pub rows-few : (n m rates : ℕ) (ds : List Dependence) → n ≤ m → rates ≤ most_rates → length (closed_coordinates n rates ds) ≤ 2 ^ m - 1 + most_rates
rows-few n m rates ds h k =
    let all = span 1 (2 ^ n - 1) in
    let sets = filter (has_row n ds) all in
    let most : 2 ^ n ≤ 2 ^ m = pow-le-pow_right (lit< tt) h in
    omega (
      arith,
      length-append sets (span (2 ^ n) rates),
      length-filter (has_row n ds) all,
      count_by-le-length
          (has_row n ds) all,
      length-span 1 (2 ^ n - 1),
      length-span (2 ^ n) rates,
      most,
      pow_pos m,
      k,
    )

-- a constraint has at most two columns
pub columns-few : (cs : List Constraint) → constraint_columns cs ≤ 2 * length cs
columns-few [] = omega arith
columns-few (c ∷ cs) = omega (arith, by_kind c.kind, columns-few cs)
  where
    by_kind : (k : Kind) → column_count k ≤ 2
    by_kind Inequality = omega arith
    by_kind Equation = omega arith

-- and rows times columns are few enough for a count
pub product-few : (a b : ℕ) → a ≤ most_coordinates → b < 2 ^ 33 → a * b < 2 ^ 64
product-few a b h k = omega (arith, mul-le-mul_right b h, k)
