-- No public clause cites this module: the sum of multiples of two ascending rows, coordinate by coordinate.
use Rattle.std.specs.Prelude.{◌≡◌, ◌≢◌, ℕ, ◌+◌, ◌≤◌, ℤ, pos, ◌+ℤ◌, ◌*ℤ◌, [], ◌∷◌, ◌++◌, length, cond, nat_eq}
use Rattle.it_space.specs.Rows.{Terms, coefficient, Ascends, single_term}
use Rattle.it_space.specs.Cancelling.{MixFits}

-- the coefficient of a times up plus b times down at coordinate c
abbrev pub mix : ℕ → Terms → ℕ → Terms → ℕ → ℤ
mix a up b down c = pos a *ℤ coefficient up c +ℤ pos b *ℤ coefficient down c

-- both products and their sum at coordinate c are within the limit
abbrev pub MixFitsAt : ℕ → Terms → ℕ → Terms → ℕ → Type 0
MixFitsAt a up b down c = MixFits (pos a) (coefficient up c) (pos b) (coefficient down c)

-- both products and their sum are within the limit at each coordinate but at
abbrev pub MixesFit : ℕ → ℕ → Terms → ℕ → Terms → Type 0
MixesFit at a up b down = (c : ℕ) → c ≢ at → MixFitsAt a up b down c

-- 1 where the first term is at coordinate c, and else 0
abbrev pub presence : ℕ → Terms → ℕ
presence c [] = 0
presence c (t ∷ ts) = cond (nat_eq t.0 c) 1 0

-- new has the terms of old after coordinate c, where no term of old is before it
pub record AreLater (c : ℕ) (old new : Terms) : Type 0 where
  pub ascends : Ascends (c + 1) new
  pub same : (d : ℕ) → d ≢ c → coefficient new d ≡ coefficient old d
  pub shorter : length new + presence c old ≡ length old

-- c is the first coordinate of two rows
pub record IsFirstCoordinate (left right : Terms) (c : ℕ) : Type 0 where
  pub left_from : Ascends c left
  pub right_from : Ascends c right
  pub some : 1 ≤ presence c left + presence c right

-- new is old with the term of the sum at c appended, unless c is at, the coordinate left out
pub record IsTermPut (at c a : ℕ) (left : Terms) (b : ℕ) (right : Terms) (old new : Terms) : Type 0 where
  pub fits : c ≢ at → MixFitsAt a left b right c
  pub is : new ≡ old ++ cond (nat_eq c at) [] (single_term c (mix a left b right c))

-- new is a times up plus b times down, without the term at coordinate at
pub record IsMix (at a : ℕ) (up : Terms) (b : ℕ) (down : Terms) (new : Terms) : Type 0 where
  pub canonical : Ascends 0 new
  pub same : (d : ℕ) → d ≢ at → coefficient new d ≡ mix a up b down d
  pub gone : coefficient new at ≡ pos 0
  pub fits : MixesFit at a up b down
