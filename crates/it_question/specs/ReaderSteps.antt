-- What the contracts of the readers' own functions say of their steps. No public clause cites it.
use Rattle.std.specs.Prelude.{◌≡◌, ℕ, ◌≤◌, ◌+◌, List, ◌++◌, length, ◌==◌, Bool, not, [], ◌∷◌, Option, Some, None, ◌⊎◌, if◌then◌else◌, codes}
use Rattle.it_forms.specs.declared.types.Code.{Code}
use Rattle.it_forms.specs.declared.types.Code.TheVariants as codes
use Rattle.it_question.specs.OwnLines.{OwnLinesView, RegionView}
use Rattle.it_question.specs.Questions.{VerbView, Prove, Eliminate, Contain}
use Rattle.it_syntax.specs.Misspellings.{SpellsUntil}
use Rattle.it_question.specs.Lines.{plain_text, LineView, IsLine, IsFilled}
use Rattle.it_question.specs.QuestionForms.{own_words, more_tries}
use Rattle.it_question.specs.QuestionLimits.{auxiliaries_left, most_lines}
use Rattle.it_question.specs.ProblemLines.{lines_with}
use Rattle.it_question.specs.TableSizes.{size_flag}
use Rattle.it_question.specs.TrySets.{auxiliary_env, unnamed_sets}
use Rattle.it_question.specs.declared.tries.Regions.{Regions}
use Rattle.it_syntax.specs.Givens.{GivenView}
use Rattle.it_syntax.specs.Meaning.{RelationView}
use Rattle.it_syntax.specs.NamesViews.{NamesView}
use Rattle.it_syntax.specs.Scopes.{Environment, env_of}
use Rattle.it_forms.specs.Forms.{Keyword, is_of, Terminal, Form, Take, Then}
use Rattle.it_forms.specs.Words.{flagged_word, line_end}

-- at most 64 lines of each kind, so that their number stays small
abbrev pub FewLines : OwnLinesView → Type 0
FewLines own = (length own.givens ≤ most_lines) × (length own.rows ≤ most_lines)

-- at most 64 lines of each kind in each region and at most 64 `try` lines, so that the number of a verb's lines stays small
abbrev pub FewLinesOf : VerbView → Type 0
FewLinesOf (Prove r) = Unit {0}
FewLinesOf (Eliminate rates) = Unit {0}
FewLinesOf (Contain first second tries) = FewLines first.lines × FewLines second.lines × (length tries ≤ most_lines)

-- b is another byte than `stop`
unfoldable pub is_other : ℕ → ℕ → Bool
is_other stop b = not (b == stop)

-- `new` is `old` with the line of `bytes` after it, if that line has a token or a misspelling; n is its number
abbrev pub IsLineAdded : ℕ → List ℕ → List LineView → List LineView → Type 0
IsLineAdded n bytes old new =
    (SpellsUntil 0 (plain_text bytes) [] None × (new ≡ old))
    ⊎ ((l : LineView) × (new ≡ old ++ l ∷ []) × IsLine n bytes l × IsFilled l.tokens l.misspelling)

-- the flag of a verb's word: `Large` if the question's table is too large
abbrev pub flag_if_large : Bool → Option Code
flag_if_large large = if large then Some codes.Large else None

-- the word of an own line, and whether it is `given`
abbrev pub own_word : Terminal Bool
own_word = record { kinds = own_words; says = λ l. (None, is_of (Keyword (codes "given")) l) }

-- the own lines with g as the last `given` line
abbrev pub with_given : OwnLinesView → GivenView → OwnLinesView
with_given own g = record own { givens = own.givens ++ g ∷ [] }

-- the own lines with r as the last `row` line
abbrev pub with_row : OwnLinesView → RelationView → OwnLinesView
with_row own r = record own { rows = own.rows ++ r ∷ [] }

-- the most variables of a region of a question with the names of v
abbrev pub most_of_region : NamesView → ℕ
most_of_region v = length v.variables + auxiliaries_left v

-- the flag of `contain`, in a question with the own lines `own` and the first region `first`
abbrev pub containment_flag : OwnLinesView → RegionView → Option Code
containment_flag own first = size_flag first.names (lines_with own first)

-- the `contain` line, in a question with the own lines `own` and the first region `first`
abbrev pub contain_line : OwnLinesView → RegionView → Form (Unit {0})
contain_line own first = Then (Take (flagged_word (codes "contain") (containment_flag own first))) (λ u. line_end)

-- the names of the second region's auxiliaries
abbrev pub auxiliaries_of : Regions → Environment
auxiliaries_of r = auxiliary_env r.question.now r.second.now

-- the names of the first region's variables
abbrev pub variables_of : Regions → Environment
variables_of r = env_of r.first.now

-- the `try` lines, where the second region has n auxiliaries
abbrev pub tries_of : Regions → ℕ → Form (List (List ℕ))
tries_of r n = more_tries (auxiliaries_of r) (variables_of r) (unnamed_sets n) []
