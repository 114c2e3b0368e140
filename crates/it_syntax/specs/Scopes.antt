-- The names of a question as the grammar takes them: the variables, and where rates may stand the rates too.
use Rattle.it_syntax.specs.NamesViews.{NamesView, index_of}
use Rattle.std.specs.Prelude.{ℕ, Bool, List, Option, None, if◌then◌else◌}

-- which variable a name is
abbrev pub Environment : Type 0
Environment = List ℕ → Option ℕ

-- which variable a name is, and which rate, where rates may stand
pub record Scope : Type 0 where
  pub variables : Environment
  pub rates : Environment

-- which of the variables a name is
unfoldable pub env_of : NamesView → Environment
env_of v = index_of v.variables

-- the variables and, where rates may stand, the rates by name
unfoldable pub scope_of : NamesView → Bool → Scope
scope_of v rates = record { variables = env_of v; rates = λ w. if rates then index_of v.rates w else None }
