-- The division of terms under way.
use Rattle.std.proofs.Common.{◌≡◌, ◌⊎◌, inl, inr, ℕ, ◌+◌, ◌<◌, ◌≤◌, [], length, sym, ap, subst, ◌∙◌}
use Rattle.std.proofs.lemmas.Bool.{cases_lt}
use Rattle.it_rational.specs.Rational.{Rational, times, inverse}
use Rattle.it_fraction.specs.Fits.{IsNarrow}
use Rattle.it_tableau.specs.Merging.{column_at, number_of_term, AreDivided, IsAppended, TermQuotientsFit}
use Rattle.it_tableau.specs.SparseRows.{RowTerms, entry_in, Climbs}
use Rattle.it_tableau.proofs.Building.{IsBuilt, IsRest, at_column, before_column, nothing_is_built, built_more, built_skip, column_from, rest_is_all, rest_next, rest_over, rest_upto}
use Rattle.it_tableau.proofs.Climbing.{climbs_none, climbs_weaker}
use Rattle.it_tableau.proofs.Zeros.{quotient_of_null}

-- the columns below next are divided
pub record IsDividing (width : ℕ) (old : RowTerms) (p : Rational) (i : ℕ) (out : RowTerms) : Type 0 where
  pub next : ℕ
  pub rest : IsRest width old i next
  pub divided : IsBuilt (λ k. times (entry_in old k) (inverse p)) (λ k. IsNarrow (times (entry_in old k) (inverse p))) next out

pub division_begins : (width : ℕ) (old : RowTerms) (p : Rational) → Climbs 0 width old → IsDividing width old p 0 []
division_begins width old p a = record {
  next = 0;
  rest = rest_is_all width old a;
  divided = nothing_is_built (λ k. times (entry_in old k) (inverse p)) (λ k. IsNarrow (times (entry_in old k) (inverse p)));
}

module _ (width : ℕ) (old : RowTerms) (p : Rational) (i : ℕ) (out : RowTerms) (m : IsDividing width old p i out) where
  pub term_is_divided : (new : RowTerms) (v : Rational) → i < length old → IsNarrow (times (number_of_term old i) (inverse p))
      → v ≡ times (number_of_term old i) (inverse p) → IsAppended out (column_at old i) v new
      → IsDividing width old p (i + 1) new
  term_is_divided new v h w f a =
      let c = column_at old i in
      let here = at_column width old i m.next m.rest h in record {
        next = c + 1;
        rest = rest_next width old i m.next m.rest h;
        divided = built_more (λ k. times (entry_in old k) (inverse p)) (λ k. IsNarrow (times (entry_in old k) (inverse p))) c out new v a
            (f ∙ ap (λ y. times y (inverse p)) (sym here))
            (subst (λ (y : Rational). IsNarrow (times y (inverse p))) (sym here) w)
            (built_skip (λ k. times (entry_in old k) (inverse p)) (λ k. IsNarrow (times (entry_in old k) (inverse p))) m.next c out
            (column_from width old i m.next m.rest h)
            (λ k x y. quotient_of_null (entry_in old k) p (before_column width old i m.next m.rest h k x y)) m.divided);
      }

  pub refused_quotient : i < length old → ¬ (IsNarrow (times (number_of_term old i) (inverse p))) → ¬ (TermQuotientsFit old p)
  refused_quotient h n f = n (subst (λ (y : Rational). IsNarrow (times y (inverse p))) (at_column width old i m.next m.rest h) (f (column_at old i)))

  module _ (h : length old ≤ i) where
    pub all_quotients_fit : TermQuotientsFit old p
    all_quotients_fit k = by_cases (cases_lt k m.next)
      where
        by_cases : (k < m.next) ⊎ (m.next ≤ k) → IsNarrow (times (entry_in old k) (inverse p))
        by_cases (inl a) = m.divided.fits k a
        by_cases (inr a) = (quotient_of_null (entry_in old k) p (rest_over width old i m.next m.rest h k a)).0

    pub division_ends : AreDivided old p width out
    division_ends = record {
      entries = λ k. by_cases k (cases_lt k m.next);
      ascend = climbs_weaker 0 m.next width out
          (rest_upto width old i m.next m.rest) m.divided.climbs;
    }
      where
        by_cases : (k : ℕ) → (k < m.next) ⊎ (m.next ≤ k) → entry_in out k ≡ times (entry_in old k) (inverse p)
        by_cases k (inl a) = m.divided.entries k a
        by_cases k (inr a) = climbs_none 0 m.next out k m.divided.climbs a
            ∙ sym (quotient_of_null (entry_in old k) p (rest_over width old i m.next m.rest h k a)).1
