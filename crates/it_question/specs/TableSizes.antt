-- The problem that a question's lines pose, and the size of its table, with which the run about it begins. `Large` flags the word of a
-- verb whose question's table is too large, in files where tables may not have any size.
use Rattle.std.specs.Prelude.{ℕ, ◌≤◌, nat_lt, length, map, zip, Option, Some, None, if◌then◌else◌}
use Rattle.std.specs.Bool.{OnFalse}
use Rattle.it_space.specs.declared.spaces.Space.{Space}
use Rattle.it_problems.specs.declared.problems.Constraint.{Constraint}
use Rattle.it_problems.specs.declared.problems.Origin.{Origin}
use Rattle.it_problems.specs.Problems.{ProblemView}
use Rattle.it_space.specs.Spaces.{size_of}
use Rattle.it_closure.specs.Sizes.{most_entries, table_size}
use Rattle.it_forms.specs.declared.types.Code.{Code}
use Rattle.it_forms.specs.declared.types.Code.TheVariants as codes
use Rattle.it_syntax.specs.NamesViews.{NamesView}
use Rattle.it_demand.specs.Demands.{Demand}
use Rattle.it_demand.specs.QuestionSpaces.{space_of}
use Rattle.it_demand.specs.RowsOfForms.{terms_of_form}
use Rattle.it_question.specs.LineOrigins.{line_origins}
use Rattle.it_question.specs.LineDemands.{line_demands}
use Rattle.it_question.specs.ProblemLines.{problem_names, problem_lines}
use Rattle.it_question.specs.OwnLines.{OwnLinesView}
use Rattle.it_question.specs.Questions.{BodyView}
use Rattle.it_question.specs.declared.sizes.FileLimits.{FileLimits}

-- the constraint that states a demand of an origin
abbrev pub constraint_of : Space → Origin × Demand → Constraint
constraint_of s (place, d) = record { row = terms_of_form (size_of s) d.form; kind = d.kind; origin = place }

-- the problem of the lines `own` under the names of v
abbrev pub problem_of_lines : NamesView → OwnLinesView → ProblemView
problem_of_lines v own = record { space = space_of v; constraints = map (constraint_of (space_of v)) (zip (line_origins (length v.variables) own) (line_demands (length v.variables) own)) }

-- the flag of the verb's word: `Large` if the table of the problem of these lines is too large
unfoldable pub size_flag : NamesView → OwnLinesView → Option Code
size_flag v own = if nat_lt most_entries (table_size (problem_of_lines v own)) then Some codes.Large else None

-- that flag in a file with these limits: none where tables may have any size
abbrev pub table_flag : FileLimits → NamesView → OwnLinesView → Option Code
table_flag limits v own = if limits.large_tables then None else size_flag v own

-- the table of the problem that a question poses isn't too large
abbrev pub HasSmallTable : BodyView → Type 0
HasSmallTable q = table_size (problem_of_lines (problem_names q) (problem_lines q)) ≤ most_entries

-- the table isn't too large for a file with these limits
abbrev pub HasTableWithin : FileLimits → BodyView → Type 0
HasTableWithin limits q = OnFalse limits.large_tables (HasSmallTable q)
