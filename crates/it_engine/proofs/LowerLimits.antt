-- What holds under a limit holds under a lower one that the rows keep.
use Rattle.std.proofs.Common.{ℕ, ◌*◌, ◌≤◌, List, Option, [], slice_index_or, arith}
use Rattle.std.proofs.lemmas.Nat.{mul-le}
use Rattle.it_rational.specs.Rational.{Rational}
use Rattle.it_space.specs.Rows.{Terms, row_mass}
use Rattle.it_tableau.specs.Problems.{feasibility_problem}
use Rattle.it_tableau.specs.SimplexTables.{SimplexTable, FeasibilityProblem}
use Rattle.it_run.specs.declared.answering.Solved.{Solved}
use Rattle.it_engine.specs.Ends.{AnswersQuestion}
use Rattle.it_engine.specs.Engine.{IsSafe, Represents}
use Rattle.it_engine.specs.Tables.{AreAllAtMost}
use Rattle.it_whole.specs.WholeRows.{WholeRowView}

module _ (columns : List Terms) (limit lower : ℕ) (rows : List WholeRowView) (basis : List ℕ) (less : lower ≤ limit) (most : AreAllAtMost lower rows) where
  product_less : (k : ℕ) → k * lower ≤ k * limit
  product_less k = mul-le k lower k limit (omega arith) less

  pub safe_below : IsSafe columns limit rows basis → IsSafe columns lower rows basis
  safe_below s = record {
    rows_are = s.rows_are;
    usable = λ i l. let u = s.usable i l in record { length_is = u.length_is; some = u.some; small = λ k h. most i l k (omega (arith, h, u.length_is)) };
    fitting = λ j l. let f = s.fitting j l in record {
      within = f.within;
      fits
          = (let w = product_less (row_mass (slice_index_or columns j [])) in omega (arith, w, f.fits));
    };
    limit_is = omega (arith, less, s.limit_is);
  }

  pub stands_below : (p : FeasibilityProblem Rational) (t : SimplexTable Rational) → Represents p t columns limit rows basis
      → Represents p t columns lower rows basis
  stands_below p t s = record {
    norm = s.norm;
    some = s.some;
    fit = (let w = product_less s.norm in omega (arith, w, s.fit));
    holds = s.holds;
    shows = record {
      rows_are = s.shows.rows_are;
      basis_are = s.shows.basis_are;
      row = λ i l. let r = s.shows.row i l in record {
        length_is = r.length_is;
        some = r.some;
        low = r.low;
        named = r.named;
        small = λ k h. most i (omega (arith, l, s.shows.rows_are)) k (omega (arith, h, r.length_is));
      };
      basis_is = s.shows.basis_is;
    };
    columns_are = s.columns_are;
  }

  -- the answer under the lower limit is one under the other
  pub answers_below : (coordinates : List ℕ) (target : Terms) (budget : Option ℕ) (solved : Solved)
      → AnswersQuestion coordinates target columns lower rows basis budget solved
      → AnswersQuestion coordinates target columns limit rows basis budget solved
  answers_below coordinates target budget solved a generators t s = a generators t (stands_below (feasibility_problem coordinates generators target) t s)
