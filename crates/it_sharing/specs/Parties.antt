-- The most parties and lists of them, and the names that are parties.
use Rattle.std.specs.Prelude.{ℕ, ◌-◌, nat_eq, if◌then◌else◌, Some, None, option_and_then}
use Rattle.it_syntax.specs.NamesViews.{NamesView, index_of}
use Rattle.it_syntax.specs.Scopes.{Environment}
use Rattle.it_question.specs.QuestionLimits.{names_within}
use Rattle.it_question.specs.declared.sizes.FileLimits.{FileLimits}

-- the most parties where nothing else is said: with the secret they are nine variables, with which no table is too large
abbrev pub most_parties : ℕ
most_parties = 8

-- the most parties of a file with these limits: where tables may have any size, with the secret as many as a question may name variables
abbrev pub parties_within : FileLimits → ℕ
parties_within limits = if limits.large_tables then names_within limits - 1 else most_parties

-- the most `qualified` lines
abbrev pub most_qualified : ℕ
most_qualified = 64

-- the variable of the party w; the secret is no party
unfoldable pub party_env : NamesView → Environment
party_env v w = option_and_then (λ i. if nat_eq i 0 then None else Some i) (index_of v.variables w)
