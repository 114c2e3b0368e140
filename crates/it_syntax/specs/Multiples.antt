-- The limits of a relation: of its terms, and of the least common multiple of its denominators.
use Rattle.std.specs.Prelude.{ℕ, ◌^◌, ◌||◌, nat_eq, nat_lt, Option, Some, None, if◌then◌else◌}
use Rattle.it_number.specs.Gcd.{lcm}

-- the most terms of both sides together
abbrev pub most_terms : ℕ
most_terms = 256

-- the limit of the least common multiple of a relation's denominators
abbrev pub most_multiple : ℕ
most_multiple = 2 ^ 32

-- the least common multiple of m and d; none if d is 0 or the result passes the limit
unfoldable pub multiple_with : ℕ → ℕ → Option ℕ
multiple_with m d = if nat_eq d 0 || nat_lt most_multiple (lcm m d) then None else Some (lcm m d)
