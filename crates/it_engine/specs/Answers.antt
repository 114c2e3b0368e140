-- The claims of an answer of the run on whole numbers.
use Rattle.std.specs.Prelude.{ℕ, List, length, Option}
use Rattle.it_space.specs.Rows.{Terms}
use Rattle.it_tableau.specs.TableauViews.{start_of}
use Rattle.it_tableau.specs.Fits.{StartFits}
use Rattle.it_tableau.specs.Problems.{feasibility_problem}
use Rattle.it_run.specs.Answers.{end_of_answer}
use Rattle.it_run.specs.Solving.{RunsTo}
use Rattle.it_run.specs.declared.answering.Solved.{Solved}

-- the start of a question isn't wide, and the answer is the end of the run from it, with a budget or without one
pub record RunsFromStart (coordinates : List ℕ) (columns : List Terms) (target : Terms) (budget : Option ℕ) (answer : Solved) : Type 0 where
  pub fits : StartFits (length coordinates) (length columns) (feasibility_problem coordinates columns target)
  pub ends : RunsTo (length coordinates) (length columns) (feasibility_problem coordinates columns target) budget (start_of coordinates columns target) (end_of_answer answer)
