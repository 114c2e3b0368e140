-- A number above 0 isn't 0.
use Rattle.std.proofs.Common.{◌≢◌, pos}
use Rattle.it_rational.specs.Rational.{Rational}
use Rattle.it_rational.proofs.Field.{null_from, field_ℚ}
use Rattle.it_rational.proofs.Ordered.{above-apart}
use Rattle.it_tableau.specs.TableauViews.{IsPositive}

pub positive_some : (q : Rational) → IsPositive q → q.num ≢ pos 0
positive_some q h e = above-apart field_ℚ q h (null_from q e)
