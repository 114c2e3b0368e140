-- The grammar of sharing files: the secret, the parties, one or more lists of parties who know the secret together, and what is asked.
-- `Name` flags the secret in a list, `Many` a party past the limit and the keyword of a list past it.
use Rattle.std.specs.Prelude.{ℕ, ◌+◌, ◌-◌, Bool, true, false, List, [], ◌∷◌, ◌++◌, length, codes}
use Rattle.it_forms.specs.declared.types.Symbol.TheVariants as symbols
use Rattle.it_syntax.specs.declared.types.Sign.TheVariants.{AtLeast}
use Rattle.it_syntax.specs.Meaning.{RelationView, multiple_from}
use Rattle.it_syntax.specs.NamesViews.{NamesView}
use Rattle.it_syntax.specs.Scopes.{scope_of, Environment, Scope}
use Rattle.it_syntax.specs.Multiples.{most_terms}
use Rattle.it_sharing.specs.Parties.{most_qualified, parties_within, party_env}
use Rattle.it_question.specs.declared.sizes.FileLimits.{FileLimits}
use Rattle.it_syntax.specs.LineForms.{names, sum, relation}
use Rattle.it_question.specs.QuestionForms.{new_name, new_names}
use Rattle.it_question.specs.NewNames.{Variable, no_names}
use Rattle.it_sharing.specs.Sharings.{SharingView}
use Rattle.it_forms.specs.Forms.{Form, Give, Take, If}
use Rattle.it_forms.specs.Words.{◌>>=◌, ◌>>◌, symbol, word, each_flagged, to_end, file_end, limit_flag}

-- the lists `sets` and further ones, each after `qualified`, at most 64 in all
unfoldable pub more_lists : Environment → List ℕ → Form (List ℕ)
more_lists env sets =
    each_flagged (codes "qualified") (λ sets. limit_flag (most_qualified - length sets)) (λ sets. to_end (names env)) (λ sets set. sets ++ set ∷ []) sets

-- two sums with `>=` between them, of at most 256 terms together
unfoldable pub bound : Scope → Form RelationView
bound s = do
  left ← sum most_terms 1 s
  Take (symbol symbols.AtLeast)
  right ← sum (most_terms - length left) (multiple_from 1 left) s
  Give (record { left = left; sign = AtLeast; right = right })

-- `prove` and a relation, or `best` (true) and two sums
unfoldable pub aim : NamesView → Form (Bool × RelationView)
aim v =
    If (word (codes "prove")) (λ u. to_end (relation (scope_of v true)) >>= λ x. Give (false, x))
    (Take (word (codes "best")) >> (to_end (bound (scope_of v true)) >>= λ x. Give (true, x)))

-- the name of the secret, after `secret`
abbrev pub secret_name : Form NamesView
secret_name = to_end (new_name Variable 1 no_names)

-- the names of the parties, after `parties`, where the secret has its name
abbrev pub party_names : FileLimits → NamesView → Form NamesView
party_names limits secret = new_names Variable (length secret.variables + parties_within limits) secret

-- a sharing file with these limits, up to its end
unfoldable pub sharing : FileLimits → Form SharingView
sharing limits = do
  Take (word (codes "secret"))
  secret ← secret_name
  Take (word (codes "parties"))
  all ← party_names limits secret
  Take (word (codes "qualified"))
  first ← to_end (names (party_env all))
  lists ← more_lists (party_env all) (first ∷ [])
  asked ← aim all
  file_end
  Give (record { names = all; qualified = lists; best = asked.0; relation = asked.1 })
