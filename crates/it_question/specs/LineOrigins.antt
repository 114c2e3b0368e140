-- Where the demands of a question's lines come from.
use Rattle.std.specs.Prelude.{ℕ, List, ◌++◌}
use Rattle.it_problems.specs.declared.problems.Origin.{Origin}
use Rattle.it_demand.specs.Origins.{given_origins, row_origins}
use Rattle.it_question.specs.OwnLines.{OwnLinesView}

-- the origins of the demands of lines of n variables, where the givens are numbered from g on and the rows from r on
abbrev pub origins_from : ℕ → ℕ → ℕ → OwnLinesView → List Origin
origins_from n g r own = given_origins n g own.givens ++ row_origins r own.rows

-- the origins of the demands of lines of n variables, each kind of which is numbered from 1 on
abbrev pub line_origins : ℕ → OwnLinesView → List Origin
line_origins n own = origins_from n 1 1 own
