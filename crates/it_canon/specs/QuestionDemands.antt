-- The demands of a question in generator order, the problem that it poses, and the terms of forms over its coordinates.
use Rattle.std.specs.Prelude.{◌≡◌, List}
use Rattle.it_problems.specs.Problems.{ProblemView, IsProblem}
use Rattle.it_space.specs.Rows.{Terms}
use Rattle.it_space.specs.Spaces.{size_of}
use Rattle.it_polymatroid.specs.Certificates.{Form}
use Rattle.it_demand.specs.QuestionSpaces.{space_of}
use Rattle.it_demand.specs.RowsOfForms.{terms_of_form}
use Rattle.it_problems.specs.declared.problems.Origin.{Origin}
use Rattle.it_question.specs.LineOrigins.{line_origins}
use Rattle.it_question.specs.LineDemands.{line_demands}
use Rattle.it_question.specs.ProblemLines.{problem_names, problem_lines}
use Rattle.it_question.specs.TableSizes.{problem_of_lines}
use Rattle.it_question.specs.Questions.{BodyView}
use Rattle.it_demand.specs.Demands.{Demand}
use Rattle.it_demand.specs.Origins.{AreStated}
use Rattle.it_canon.specs.TrueLines.{variable_count}

-- the demands of a question in generator order
abbrev pub question_demands : BodyView → List Demand
question_demands q = line_demands (variable_count q) (problem_lines q)

-- the problem that a question poses
abbrev pub problem_of : BodyView → ProblemView
problem_of q = problem_of_lines (problem_names q) (problem_lines q)

-- the terms of a form over the coordinates of that problem
abbrev pub terms_in : BodyView → Form → Terms
terms_in q form = terms_of_form (size_of (space_of (problem_names q))) form

-- the origins of a question's demands, in generator order
abbrev pub question_origins : BodyView → List Origin
question_origins q = line_origins (variable_count q) (problem_lines q)

-- a problem whose constraints state what the question demands, within the limits: there is no other than `problem_of`
pub record IsProblemOf (q : BodyView) (p : ProblemView) : Type 0 where
  pub space : p.space ≡ space_of (problem_names q)
  pub limits : IsProblem p
  pub constraints : AreStated p.space (question_origins q) (question_demands q) p.constraints
