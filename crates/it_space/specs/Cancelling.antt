-- A coordinate cancelled: the sum of the least multiples of a row that is positive there and of a row that is negative there
-- that has no term there. The numbers have no bounds.
use Rattle.std.specs.Prelude.{◌≢◌, ℕ, ◌/◌, ℤ, pos, ◌+ℤ◌, ◌*ℤ◌, unsigned_abs, [], ◌∷◌, ◌++◌, map, nat_eq, nat_lt, if◌then◌else◌}
use Rattle.it_number.specs.Gcd.{gcd}
use Rattle.it_number.specs.Limit.{IsWithin}
use Rattle.it_space.specs.Rows.{Terms, coefficient, single_term}

-- a row with x added at coordinate c
abbrev pub with_term : ℕ → ℤ → Terms → Terms
with_term c x [] = single_term c x
with_term c x (t ∷ ts) = if nat_lt c t.0 then single_term c x ++ t ∷ ts else if nat_eq c t.0 then single_term c (x +ℤ t.1) ++ ts else t ∷ with_term c x ts

-- the sum of two rows
abbrev pub row_sum : Terms → Terms → Terms
row_sum [] ys = ys
row_sum (x ∷ xs) ys = with_term x.0 x.1 (row_sum xs ys)

-- k times a row
abbrev pub row_multiple : ℕ → Terms → Terms
row_multiple k ts = map (λ t. (t.0, pos k *ℤ t.1)) ts

-- the greatest common divisor of the coefficients of up and down at a coordinate
abbrev pub common_at : ℕ → Terms → Terms → ℕ
common_at at up down = gcd (unsigned_abs (coefficient up at)) (unsigned_abs (coefficient down at))

-- the factor of the positive row
unfoldable pub times_up : ℕ → Terms → Terms → ℕ
times_up at up down = unsigned_abs (coefficient down at) / common_at at up down

-- the factor of the negative row
unfoldable pub times_down : ℕ → Terms → Terms → ℕ
times_down at up down = unsigned_abs (coefficient up at) / common_at at up down

-- the row in which the coordinate is cancelled
unfoldable pub cancelled_row : ℕ → Terms → Terms → Terms
cancelled_row at up down = row_sum (row_multiple (times_up at up down) up) (row_multiple (times_down at up down) down)

-- a x, b y and their sum are within the limit
pub record MixFits (a x b y : ℤ) : Type 0 where
  pub left : IsWithin (a *ℤ x)
  pub right : IsWithin (b *ℤ y)
  pub sum : IsWithin (a *ℤ x +ℤ b *ℤ y)

-- at each coordinate but the cancelled one, both products and their sum are within the limit
abbrev pub CancelFits : ℕ → Terms → Terms → Type 0
CancelFits at up down = (c : ℕ) → c ≢ at → MixFits (pos (times_up at up down)) (coefficient up c) (pos (times_down at up down)) (coefficient down c)
