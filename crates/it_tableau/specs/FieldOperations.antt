-- No public clause cites this module: the operations of an ordered field, and sums and differences over a ring.
use Rattle.std.specs.Prelude.{ℕ}
use Rattle.it_number.specs.Rings.{Ring}
use Rattle.it_rational.specs.OrderedFields.{OrderedField}
use Rattle.it_tableau.specs.Operations.{Operations}
use Rattle.it_tableau.specs.Sums.{sum_by}

-- the operations of an ordered field, without its laws
abbrev pub operations_of : {A : Type 0} → OrderedField A → Operations A
operations_of F = record {
  null = F.ring.null;
  unit = F.ring.unit;
  add = F.ring.add;
  mul = F.ring.mul;
  neg = F.ring.neg;
  inv = F.order.inv;
  is_least = F.order.is_least;
}

module _ {A : Type 0} (R : Ring A) where
  -- a less b
  abbrev pub difference : A → A → A
  difference a b = R.add a (R.neg b)

  -- f 0 + .. + f (n - 1)
  abbrev pub sum_to : ℕ → (ℕ → A) → A
  sum_to n f = sum_by R.null R.add n f
