-- The engine of the start.
use Rattle.std.proofs.Common.{◌≡◌, ℕ, ◌+◌, ◌*◌, ◌/◌, ◌<◌, ◌≤◌, ◌^◌, List, [], length, slice_index_or, sym, ap, subst, ◌∙◌, arith}
use Rattle.std.proofs.lemmas.Nat.{mul-le}
use Rattle.it_rational.specs.Rational.{Rational, integer, IsRatio}
use Rattle.it_rational.specs.Rational as Q
use Rattle.it_rational.proofs.Names.{whole_names}
use Rattle.it_rational.proofs.RationalLaws.{ring_ℚ}
use Rattle.it_rational.proofs.Field.{field_ℚ}
use Rattle.it_space.specs.Rows.{Terms, row_mass}
use Rattle.it_tableau.specs.TableauViews.{start_of}
use Rattle.it_tableau.specs.Operations.{rationals}
use Rattle.it_tableau.specs.Invariants.{HasInvariants}
use Rattle.it_tableau.specs.Problems.{feasibility_problem}
use Rattle.it_tableau.specs.SimplexTables.{start_row}
use Rattle.it_tableau.proofs.StartLemmas.{start_basis, start_has_invariants}
use Rattle.it_tableau.proofs.Sums.{sum_same}
use Rattle.it_engine.specs.Engine.{IsSafe, Represents}
use Rattle.it_engine.specs.Loading.{signed_coefficient, AreReadColumns, AreReadRows, IsNorm}
use Rattle.it_space.specs.Sums.{number_at}
use Rattle.it_engine.specs.Tables.{whole_row_at, AreStartColumns, ShowsTable}
use Rattle.it_whole.specs.WholeRows.{WholeRowView}
use Rattle.it_engine.proofs.StartNumbers.{column_entry}
use native.Mathlib.Nat.{mul-div-le}

-- the parts of the engine that are read off a question
pub record IsLoaded (cs : List ℕ) (generators : List Terms) (target : Terms) (columns : List Terms) (norm limit : ℕ)
    (rows : List WholeRowView) (basis : List ℕ) : Type 0 where
  pub columns_are : AreReadColumns cs generators target columns
  pub norm_is : IsNorm columns norm
  pub fit : norm * limit < 2 ^ 63
  pub rows_are : AreReadRows cs target limit (length cs + 1) rows
  pub height : length basis ≡ length cs
  pub basis_is : (i : ℕ) → i < length cs → slice_index_or basis i 0 ≡ length generators + i

module _ (cs : List ℕ) (generators : List Terms) (target : Terms) (columns : List Terms) (norm limit : ℕ) (rows : List WholeRowView) (basis : List ℕ)
    (s : IsLoaded cs generators target columns norm limit rows basis) where
  pub limit_short : limit < 2 ^ 63
  limit_short = let n = s.norm_is.some in let w : 1 * limit ≤ norm * limit = mul-le 1 limit norm limit n (omega arith) in omega (arith, w, s.fit)

  pub engine_start : IsSafe columns limit rows basis
  engine_start = record {
    rows_are = s.rows_are.0 ∙ ap (λ k. k + 1) (sym s.height);
    usable = λ i l. let r = s.rows_are.1 i (omega (arith, l, s.rows_are.0)) in record {
      length_is = r.length_is ∙ sym s.rows_are.0;
      some = subst (λ (k : ℕ). 0 < k) (sym r.denominator_is) (omega arith);
      small = λ k l. (r.each generators k (omega (arith, l, s.rows_are.0))).small;
    };
    fitting = λ j l. let c = s.columns_are.1 j (omega (arith, l, s.columns_are.0)) in record {
      within = λ i d l. let w = c.within i d l in omega (arith, w, s.rows_are.0);
      fits = (let w : row_mass (slice_index_or columns j []) * limit ≤ norm * limit = mul-le (row_mass (slice_index_or columns j [])) limit
          norm limit (s.norm_is.bounds j l) (omega arith) in omega (arith, w, s.fit));
    };
    limit_is = limit_short;
  }

  start_is_shown : ShowsTable (length cs) (length generators) limit (start_of cs generators target) rows basis
  start_is_shown = record {
    rows_are = s.rows_are.0;
    basis_are = s.height;
    row = λ i l. let r = s.rows_are.1 i l in record {
      length_is = r.length_is;
      some = subst (λ (k : ℕ). 0 < k) (sym r.denominator_is) (omega arith);
      low = subst (λ (k : ℕ). k < 2 ^ 63) (sym r.denominator_is) (omega arith);
      named = λ k l. subst (λ (d : ℕ). IsRatio ((start_of cs generators target).entry i (length generators + k))
          (number_at (whole_row_at rows i).numbers k) d) (sym r.denominator_is)
          (subst (λ (q : Rational). IsRatio q (number_at (whole_row_at rows i).numbers k) 1) (sym (r.each generators k l).value_is)
          (whole_names (number_at (whole_row_at rows i).numbers k)));
      small = λ k l. (r.each generators k l).small;
    };
    basis_is = λ i l. start_basis field_ℚ (length cs) (length generators) (feasibility_problem cs generators target) i l ∙ sym (s.basis_is i l);
  }

  pub columns_are_of_start : AreStartColumns (length cs) (length generators) norm (feasibility_problem cs generators target) columns
  columns_are_of_start = record {
    count = s.columns_are.0;
    column = λ j l. let c = s.columns_are.1 j l in record {
      value_is = λ g. sum_same ring_ℚ (length cs) (λ k. Q.times (g k) (start_row rationals (length cs) (length generators)
          (feasibility_problem cs generators target) k j))
          (λ k. Q.times (g k) (integer (signed_coefficient cs target (slice_index_or generators j []) k)))
          (λ k h. ap (Q.times (g k)) (column_entry cs generators target k j l)) ∙ c.value_is g;
      within = c.within;
      bounded = s.norm_is.bounds j (omega (arith, l, s.columns_are.0));
    };
  }

  pub stands_start : Represents (feasibility_problem cs generators target) (start_of cs generators target) columns limit rows basis
  stands_start = record {
    norm = norm;
    some = s.norm_is.some;
    fit = s.fit;
    holds = by_same_sizes (λ m n. HasInvariants rationals m n (feasibility_problem cs generators target) (start_of cs generators target))
        (start_has_invariants field_ℚ (length cs) (length generators) (feasibility_problem cs generators target));
    shows = by_same_sizes (λ m n. ShowsTable m n limit (start_of cs generators target) rows basis) start_is_shown;
    columns_are = by_same_sizes (λ m n. AreStartColumns m n norm (feasibility_problem cs generators target) columns) columns_are_of_start;
  }
    where
      by_same_sizes : (P : ℕ → ℕ → Type 0) → P (length cs) (length generators) → P (length basis) (length columns)
      by_same_sizes P x = subst (λ (m : ℕ). P m (length columns)) (sym s.height) (subst (P (length cs)) (sym s.columns_are.0) x)

-- the limit that a norm leaves
pub limit_fits : (norm : ℕ) → norm * (9223372036854775807 / norm) < 2 ^ 63
limit_fits norm = let l = mul-div-le 9223372036854775807 norm in omega (arith, l)
