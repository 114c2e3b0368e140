-- Drawn numbers: those of the generator that the C standard gives as an example (ISO/IEC 9899:1990, 7.10.2).
use Rattle.std.specs.Prelude.{ℕ, zero, suc, ◌+◌, ◌*◌, ◌/◌, ◌%◌, ◌^◌}

-- the state after one draw
unfoldable pub next_state : ℕ → ℕ
next_state x = (1103515245 * x + 12345) % 2 ^ 31

-- the state after n draws from state x
abbrev pub state_after : ℕ → ℕ → ℕ
state_after zero x = x
state_after (suc n) x = state_after n (next_state x)

-- draw number n from state x, counted from 1: a number below m
abbrev pub draw : ℕ → ℕ → ℕ → ℕ
draw n m x = (state_after n x / 65536) % m
