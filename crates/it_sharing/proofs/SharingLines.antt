-- A sharing file is written as whole lines before the file's end.
use Rattle.std.proofs.Common.{ℕ, ◌+◌, ◌-◌, true, List, [], ◌∷◌, ◌++◌, length, length-append, refl, sym, ap, ◌∙◌, inl, inr, arith}
use Rattle.std.specs.Prelude.{codes, Bool}
use Rattle.it_forms.specs.Forms.{Keyword, Give, Then, Spells}
use Rattle.it_forms.specs.Letters.{FlaggedLetters}
use Rattle.it_forms.proofs.LineEnds.{HasNoEnd}
use Rattle.it_forms.specs.Words.{word, limit_flag, to_end}
use Rattle.it_syntax.specs.LineForms.{names, relation}
use Rattle.it_syntax.specs.NamesViews.{NamesView}
use Rattle.it_syntax.specs.Scopes.{Environment, Scope, scope_of}
use Rattle.it_question.specs.NewNames.{Variable, no_names}
use Rattle.it_question.specs.QuestionForms.{new_name}
use Rattle.it_question.proofs.FileLemmas.{end_is}
use Rattle.it_syntax.proofs.OneLine.{names_has_no_end, sum_has_no_end, relation_has_no_end}
use Rattle.it_syntax.specs.Meaning.{RelationView}
use Rattle.it_question.proofs.Puts.{HasLines, Puts, puts_at, taken_token, tokens_lines, lines_then, line_puts}
use Rattle.it_question.proofs.QuestionLines.{Grows, turns_grow, new_name_has_no_end, new_names_lines}
use Rattle.it_question.proofs.WholeFileLemmas.{EndsFile}
use Rattle.it_question.specs.declared.sizes.FileLimits.{FileLimits}
use Rattle.it_sharing.specs.SharingForms.{more_lists, bound, aim, sharing}
use Rattle.it_sharing.specs.Parties.{most_qualified, party_env}

lists_lines : (env : Environment) (sets all : List ℕ) (m k : FlaggedLetters) → Spells (more_lists env sets) all m k → Grows length sets all m k
unfolding more_lists Spells
lists_lines env sets all m k s =
    turns_grow (λ (sets : List ℕ). record { kinds = Keyword (codes "qualified") ∷ []; says = λ l. (limit_flag (most_qualified - length sets), tt {0}) }) (λ sets u. Spells (Then (to_end (names env)) (λ set. Give (sets ++ set ∷ [])))) length (λ sets. refl) (λ sets u c m k t. (0, puts_at (line_puts (names env) (names_has_no_end env) t.0 m t.1 t.2) t.3.1, sym (ap length t.3.0) ∙ omega (arith, length-append sets (t.0 ∷ [])))) s.0 sets all m k s.1

bound_has_no_end : (s : Scope) → HasNoEnd (bound s)
unfolding HasNoEnd bound
bound_has_no_end s = (sum_has_no_end _ _ s, λ left. (refl, λ u. (sum_has_no_end _ _ s, λ right. tt)))

aim_lines : (v : NamesView) (y : (Bool × RelationView)) (m k : FlaggedLetters) → Spells (aim v) y m k → Puts (HasLines 1) m k
unfolding aim Spells
aim_lines v y m k (inl s) = puts_at (tokens_lines 0 (taken_token (word (codes "prove")) s.0 m s.1 refl s.2) (line_puts (relation (scope_of v true)) (relation_has_no_end _) s.3.0 s.1 s.3.1 s.3.2)) s.3.3.1
aim_lines v y m k (inr s) = puts_at (tokens_lines 0 (taken_token (word (codes "best")) s.0 m s.1 refl s.2) (line_puts (bound (scope_of v true)) (bound_has_no_end _) s.3.0 s.1 s.3.1 s.3.2)) s.3.3.1

pub sharing_ends : (limits : FileLimits) → EndsFile (sharing limits)
unfolding sharing Spells
sharing_ends limits y m s =
    let secret = s.3 in
    let before_parties = secret.3 in
    let parties = before_parties.3 in
    let before_first = parties.3 in
    let first = before_first.3 in
    let lists = first.3 in
    let asked = lists.3 in
    let end = asked.3 in
    let more = lists_lines (party_env parties.0) (first.0 ∷ []) lists.0 first.1 lists.1 lists.2 in
    let last = puts_at (aim_lines parties.0 asked.0 lists.1 asked.1 asked.2) (end_is end.0 asked.1 end.1 end.2 end.3.1) in
    let listed = tokens_lines 0 (taken_token (word (codes "qualified")) before_first.0 parties.1 before_first.1 refl before_first.2) (line_puts (names (party_env parties.0)) (names_has_no_end _) first.0 before_first.1 first.1 first.2) in
    let named = tokens_lines 0 (taken_token (word (codes "parties")) before_parties.0 secret.1 before_parties.1 refl before_parties.2) (new_names_lines Variable _ secret.0 parties.0 before_parties.1 parties.1 parties.2).0 in
    let hidden = tokens_lines 0 (taken_token (word (codes "secret")) s.0 m s.1 refl s.2) (line_puts (new_name Variable 1 no_names) (new_name_has_no_end Variable 1 no_names) secret.0 s.1 secret.1 secret.2) in
    let n = more.lines + 1 in
    (1 + (1 + (1 + n)), lines_then 1 (1 + (1 + n)) hidden (lines_then 1 (1 + n) named (lines_then 1 n listed (lines_then more.lines 1 more.puts last))))
