-- What a column that fits usable rows has there.
use Rattle.std.proofs.Common.{ℕ, ◌<◌, ◌^◌, unsigned_abs, arith}
use Rattle.it_space.specs.Rows.{Terms, value}
use Rattle.it_space.specs.Sums.{number_at}
use Rattle.it_whole.specs.ColumnTerms.{Suits}
use Rattle.it_whole.specs.WholeRows.{IsUsable, WholeRowView}
use Rattle.it_engine.specs.PivotedRows.{IsFitting}
use Rattle.it_engine.proofs.Generators.{value_bounded}

pub fitting_suits : (width limit : ℕ) (terms : Terms) (row : WholeRowView) → IsFitting width limit terms → IsUsable width limit row → Suits terms row.numbers
fitting_suits width limit terms row f u = record {
  within = λ k d l. let w = f.within k d l in omega (arith, w, u.length_is);
  fits = (limit, (λ k l. u.small k (omega (arith, l, u.length_is))), f.fits);
}

pub fitting_short : (width limit : ℕ) (terms : Terms) (row : WholeRowView) → IsFitting width limit terms → IsUsable width limit row
    → unsigned_abs (value terms (number_at row.numbers)) < 2 ^ 63
fitting_short width limit terms row f u =
    let b = value_bounded terms width (number_at row.numbers) limit f.within u.small in omega (arith, b, f.fits)
