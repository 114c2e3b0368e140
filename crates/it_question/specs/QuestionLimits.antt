-- The most bytes, questions, names of variables, auxiliaries and lines. Of rates it is the most of a space. How large the questions of a
-- file may be is a value that the forms take.
use Rattle.std.specs.Prelude.{ℕ, ◌-◌, min, length, true, false}
use Rattle.it_space.specs.Spaces.{most_variables}
use Rattle.it_syntax.specs.NamesViews.{NamesView}
use Rattle.it_question.specs.OwnLines.{OwnLinesView}
use Rattle.it_question.specs.declared.sizes.FileLimits.{FileLimits}

-- the most bytes of a file
abbrev pub most_file_bytes : ℕ
most_file_bytes = 1048576

-- the most questions of a file
abbrev pub most_questions : ℕ
most_questions = 1000

-- the most names of variables of a question where nothing else is said, and of a containment in any file, a region's auxiliaries among them
abbrev pub most_names : ℕ
most_names = 10

-- how large questions may be where nothing else is said
abbrev pub usual : FileLimits
usual = record { variables = most_names; large_tables = false }

-- questions may have n names of variables, and tables of any size
abbrev pub wide : ℕ → FileLimits
wide n = record { variables = n; large_tables = true }

-- questions may have as many names of variables as a space, and tables of any size
abbrev pub widest : FileLimits
widest = wide most_variables

-- the most names of variables of a question of a file with these limits: no more than a space has
abbrev pub names_within : FileLimits → ℕ
names_within limits = min limits.variables most_variables

-- the most auxiliaries of a region
abbrev pub most_auxiliaries : ℕ
most_auxiliaries = 4

-- the most lines of a question of each kind: `given`, `row` and `try`
abbrev pub most_lines : ℕ
most_lines = 64

-- the most auxiliaries of a region of a question with the names of v
abbrev pub auxiliaries_left : NamesView → ℕ
auxiliaries_left v = min most_auxiliaries (most_names - length v.variables)

-- the number of `given` lines that are allowed after `own`, of g in all
abbrev pub givens_left : ℕ → OwnLinesView → ℕ
givens_left g own = g - length own.givens

-- the number of `row` lines that are allowed after `own`, of r in all
abbrev pub rows_left : ℕ → OwnLinesView → ℕ
rows_left r own = r - length own.rows
