-- The variables and lines of the problem that a question poses.
use Rattle.std.specs.Prelude.{[], ◌++◌}
use Rattle.it_syntax.specs.NamesViews.{NamesView}
use Rattle.it_question.specs.OwnLines.{OwnLinesView, RegionView}
use Rattle.it_question.specs.Questions.{VerbView, Prove, Eliminate, Contain, BodyView}

-- the givens alone
abbrev pub givens_alone : OwnLinesView → OwnLinesView
givens_alone own = record { givens = own.givens; rows = [] }

-- lines, and after them a region's own
abbrev pub lines_with : OwnLinesView → RegionView → OwnLinesView
lines_with own r = record { givens = own.givens ++ r.lines.givens; rows = own.rows ++ r.lines.rows }

-- the names of a question's problem: its own, or those of its first region
abbrev pub names_under : NamesView → VerbView → NamesView
names_under v (Prove r) = v
names_under v (Eliminate rates) = v
names_under v (Contain first second tries) = first.names

-- the names of the problem that a question poses
abbrev pub problem_names : BodyView → NamesView
problem_names q = names_under q.names q.verb

-- the lines of a question's problem: its own, its givens alone, or its own with those of its first region after them
abbrev pub lines_under : OwnLinesView → VerbView → OwnLinesView
lines_under own (Prove r) = own
lines_under own (Eliminate rates) = givens_alone own
lines_under own (Contain first second tries) = lines_with own first

-- the lines of the problem that a question poses
abbrev pub problem_lines : BodyView → OwnLinesView
problem_lines q = lines_under q.lines q.verb
