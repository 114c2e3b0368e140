-- The grammar of question files. `Word` flags H or I in the place of a name, `Twice` a name that is taken or was named before, `Name`
-- one that is unknown, `Many` the first letter past a limit, `Large` the word of a verb whose question's table is too large, and the
-- first `region` of a question with more names than a containment may have. The forms from `verb` on take the limits of a file.
use Rattle.std.specs.Prelude.{ℕ, ◌+◌, ◌-◌, ◌==◌, nat_lt, Bool, true, false, List, [], ◌∷◌, ◌++◌, length, is_some, Option, Some, None, if◌then◌else◌, codes, unwrap_or, map}
use Rattle.std.specs.List.{list_all, list_any}
use Rattle.it_forms.specs.declared.types.Symbol.TheVariants.{Comma, Semicolon, Assign}
use Rattle.it_forms.specs.declared.types.Code.{Code}
use Rattle.it_forms.specs.declared.types.Code.TheVariants as codes
use Rattle.it_forms.specs.Letters.{Letter}
use Rattle.it_syntax.specs.MeasureWords.{is_measure}
use Rattle.it_question.specs.TrySets.{Sets, unnamed_sets, is_named, with_set, auxiliary_env}
use Rattle.it_question.specs.QuestionLimits.{auxiliaries_left, givens_left, most_lines, most_names, most_questions, names_within, rows_left}
use Rattle.it_syntax.specs.LineForms.{names, relation, given}
use Rattle.it_syntax.specs.NamesViews.{NamesView, index_of}
use Rattle.it_syntax.specs.Scopes.{env_of, scope_of, Environment}
use Rattle.it_question.specs.OwnLines.{OwnLinesView, RegionView, no_lines}
use Rattle.it_question.specs.Questions.{VerbView, BodyView, Prove, Eliminate, Contain}
use Rattle.it_question.specs.NewNames.{NameSortView, Variable, Rate, with_name, no_names, is_taken, new_flag, once_flag}
use Rattle.it_question.specs.ProblemLines.{givens_alone, lines_with}
use Rattle.it_question.specs.TableSizes.{size_flag, table_flag}
use Rattle.it_question.specs.declared.sizes.FileLimits.{FileLimits}
use Rattle.it_forms.specs.Forms.{Kind, Keyword, LineEnd, is_of, Terminal, Form, Give, Take, If, While}
use Rattle.it_forms.specs.Words.{◌>>=◌, ◌>>◌, word, flagged_word, any_word, symbol, each_after, each_flagged, zero_alone, line_end, to_end, file_end, limit_flag}
use Rattle.it_space.specs.Spaces.{most_rates}

-- ---- names that are declared

-- the number of names of this sort
abbrev pub count : NameSortView → NamesView → ℕ
count Variable v = length v.variables
count Rate v = length v.rates

-- a new name, the names of its sort being at most `most` with it
unfoldable pub new_name : NameSortView → ℕ → NamesView → Form NamesView
new_name sort most v = Take (any_word (λ w. (new_flag (is_measure w) (is_taken v w) (most - count sort v), with_name sort v w)))

-- further new names, each after a comma
unfoldable pub more_new : NameSortView → ℕ → NamesView → Form NamesView
more_new sort most v = each_after Comma (new_name sort most) (λ v more. more) v

-- new names with commas between them, up to the line's end
unfoldable pub new_names : NameSortView → ℕ → NamesView → Form NamesView
new_names sort most v = do
  first ← new_name sort most v
  all ← more_new sort most first
  line_end
  Give all

-- a line of new names that begins with this keyword, or none
unfoldable pub names_line : NameSortView → ℕ → List ℕ → NamesView → Form NamesView
names_line sort most keyword v = If (word keyword) (λ u. new_names sort most v) (Give v)

-- ---- `given` and `row` lines

-- a `given` line (true) or a `row` line, after its keyword
unfoldable pub own_line : NamesView → OwnLinesView → Bool → Form OwnLinesView
own_line v own true = do
  x ← to_end (given (scope_of v false))
  Give (record own { givens = own.givens ++ x ∷ [] })
own_line v own false = do
  x ← to_end (relation (scope_of v true))
  Give (record own { rows = own.rows ++ x ∷ [] })

-- `given` and `row`
abbrev pub own_words : List Kind
own_words = Keyword (codes "given") ∷ Keyword (codes "row") ∷ []

-- `given` or `row`, with the flag of the limit: at most g `given` lines and r `row` lines in all
abbrev pub own_keyword : ℕ → ℕ → OwnLinesView → Letter → Option Code × Bool
own_keyword g r own l = let is_given = is_of (Keyword (codes "given")) l in (limit_flag (if is_given then givens_left g own else rows_left r own), is_given)

-- the lines `own` and further own lines in any order, at most g and r in all
unfoldable pub more_own_lines : ℕ → ℕ → NamesView → OwnLinesView → Form OwnLinesView
more_own_lines g r v own = While own_words (own_keyword g r) (own_line v) own

-- own lines in any order, at most g `given` lines and r `row` lines
abbrev pub own_lines : ℕ → ℕ → NamesView → Form OwnLinesView
own_lines g r v = more_own_lines g r v no_lines

-- ---- the rates of an `eliminate` line

-- a rate that isn't in `seen`
unfoldable pub once : Environment → List ℕ → Form ℕ
once env seen = Take (any_word (λ w. (once_flag (is_measure w) (λ i. list_any (λ j. j == i) seen) (env w), unwrap_or (env w) 0)))

-- the rates `seen` and further ones, each after a comma, none twice
unfoldable pub more_once : Environment → List ℕ → Form (List ℕ)
more_once env seen = each_after Comma (once env) (λ seen i. seen ++ i ∷ []) seen

-- rates with commas between them, none twice
unfoldable pub distinct : Environment → Form (List ℕ)
distinct env = do
  first ← once env []
  more_once env (first ∷ [])

-- ---- `try` lines

-- an auxiliary that has no set yet
unfoldable pub auxiliary : Environment → Sets → Form ℕ
auxiliary aux sets = Take (any_word (λ w. (once_flag (is_measure w) (is_named sets) (aux w), unwrap_or (aux w) 0)))

-- `0`, or names
unfoldable pub set : Environment → Form ℕ
set env = If zero_alone (λ u. Give 0) (names env)

-- an auxiliary, `:=` and its set
unfoldable pub part : Environment → Environment → Sets → Form Sets
part aux env sets = do
  i ← auxiliary aux sets
  Take (symbol Assign)
  s ← set env
  Give (with_set sets i s)

-- further parts, each after `;`
unfoldable pub more_parts : Environment → Environment → Sets → Form Sets
more_parts aux env sets = each_after Semicolon (part aux env) (λ sets more. more) sets

-- the line's end, where each auxiliary must have its set
abbrev pub try_end : Sets → Terminal (Unit {0})
try_end sets = record { kinds = LineEnd ∷ []; says = λ l. (if list_all is_some sets then None else Some codes.Word, tt) }

-- after `try`
unfoldable pub try_line : Environment → Environment → Sets → Form (List ℕ)
try_line aux env sets = do
  first ← part aux env sets
  all ← more_parts aux env first
  Take (try_end all)
  Give (map (λ s. unwrap_or s 0) all)

-- the `try` lines `ts` and further ones, at most 64 in all; a region without auxiliaries has none
unfoldable pub more_tries : Environment → Environment → Sets → List (List ℕ) → Form (List (List ℕ))
more_tries aux env sets ts =
    each_flagged (codes "try") (λ ts. if list_all is_some sets then Some codes.Word else limit_flag (most_lines - length ts))
    (λ ts. try_line aux env sets) (λ ts t. ts ++ t ∷ []) ts

-- ---- regions

-- a region after `region`, with at most g `given` lines and r `row` lines
unfoldable pub region : ℕ → ℕ → NamesView → Form RegionView
region g r v = do
  line_end
  names ← names_line Variable (length v.variables + auxiliaries_left v) (codes "aux") v
  own ← own_lines g r names
  Give (record { names = names; auxiliaries = length names.variables - length v.variables; lines = own })

-- the flag of the first `region`: `Large` if there are more names of variables than a containment may have
unfoldable pub region_flag : NamesView → Option Code
region_flag v = if nat_lt most_names (length v.variables) then Some codes.Large else None

-- two regions, `try` lines and `contain`, after the first `region`, in a question with the own lines `own`
unfoldable pub containment : OwnLinesView → NamesView → Form VerbView
containment own v = do
  first ← region (givens_left most_lines own) (rows_left most_lines own) v
  Take (word (codes "region"))
  second ← region (givens_left (givens_left most_lines own) first.lines) (rows_left (rows_left most_lines own) first.lines) v
  tries ← more_tries (auxiliary_env v second.names) (env_of first.names) (unnamed_sets second.auxiliaries) []
  Take (flagged_word (codes "contain") (size_flag first.names (lines_with own first)))
  line_end
  Give (Contain first second tries)

-- ---- verbs, questions and files

-- `prove`, `eliminate` or regions, in a question with the own lines `own`
unfoldable pub verb : FileLimits → OwnLinesView → NamesView → Form VerbView
verb limits own v =
    If (flagged_word (codes "prove") (table_flag limits v own)) (λ u. do
      x ← to_end (relation (scope_of v true))
      Give (Prove x))
    (If (flagged_word (codes "eliminate") (table_flag limits v (givens_alone own))) (λ u. do
      rates ← to_end (distinct (index_of v.rates))
      Give (Eliminate rates))
    (Take (flagged_word (codes "region") (region_flag v)) >> containment own v))

-- after `vars`
unfoldable pub question : FileLimits → Form BodyView
question limits = do
  variables ← new_names Variable (names_within limits) no_names
  names ← names_line Rate most_rates (codes "rates") variables
  own ← own_lines most_lines most_lines names
  aim ← verb limits own names
  Give (record { names = names; lines = own; verb = aim })

-- the questions `qs` and further ones, at most 1000 in all
unfoldable pub more_questions : FileLimits → List BodyView → Form (List BodyView)
more_questions limits qs = each_flagged (codes "vars") (λ qs. limit_flag (most_questions - length qs)) (λ qs. question limits) (λ qs q. qs ++ q ∷ []) qs

-- questions up to the file's end
unfoldable pub file : FileLimits → Form (List BodyView)
file limits = do
  qs ← more_questions limits []
  file_end
  Give qs
