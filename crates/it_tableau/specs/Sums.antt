-- Finite sums, in the order of their terms.
use Rattle.std.specs.Prelude.{ℕ, zero, suc}

module _ {A : Type 0} (null : A) (add : A → A → A) where
  -- f 0 + .. + f (n - 1)
  abbrev pub sum_by : ℕ → (ℕ → A) → A
  sum_by zero f = null
  sum_by (suc n) f = add (f n) (sum_by n f)
